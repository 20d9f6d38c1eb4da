use Rattle.table.specs.TableFiles.{wrong_cell, states_in}
use Rattle.table.proofs.directory.Blocks.check_block.Given as goal

abbrev pub ghost-first_found : goal.ghost-first_found
ghost-first_found a = wrong_cell (states_in a.bytes.now)
