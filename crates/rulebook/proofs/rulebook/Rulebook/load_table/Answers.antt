use Rattle.std.proofs.Common.{ap}
use Rattle.table.specs.TableFiles.{file_meaning}
use Rattle.rulebook.proofs.TableLoads.{load_sound}
use Rattle.rulebook.proofs.rulebook.Rulebook.load_table.Goals as goal

pub returns-clause-stands : goal.returns-clause-stands
returns-clause-stands c = load_sound _ _ c.args.bytes.now _ _ c.in_ok-file.ensures.0 (ap file_meaning c.in_ok-file.ensures.1) c.load.ensures.stands
