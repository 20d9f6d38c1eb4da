use Rattle.encoder.proofs.FileLayout.{files_read}
use Rattle.encoder.proofs.encoding.encode.Goals as goal

pub returns-then-out-need-clause-read : goal.returns-then-out-need-clause-read
returns-then-out-need-clause-read c = files_read

pub returns-clause-read : goal.returns-clause-read
returns-clause-read c = files_read
