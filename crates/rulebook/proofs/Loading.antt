-- Load, from what the reduction gives.
use Rattle.std.proofs.Common.{◌≡◌, ◌≤◌, None, Ok, ap, subst}
use Rattle.ruling.specs.Meanings.{Meaning, accepts}
use Rattle.ruling.specs.Rulings.{Ruled}
use Rattle.ruling.specs.Checks.{first}
use Rattle.ruling.specs.KindLists.{kinds_fault}
use Rattle.ruling.specs.ReducedTables.{Reduced}
use Rattle.rulebook.specs.Calls.{load, change, count}
use Rattle.rulebook.specs.Outcomes.{TableFor}
use Rattle.rulebook.specs.Histories.{History, called, Stands}
use Rattle.rulebook.proofs.Stepping.{done}

pub load_done : (h : History) (b : Meaning) (w : Ruled) → Stands h b → Reduced b.kinds b → (d : Meaning)
    → kinds_fault w.plain.kinds b.kinds ≡ None → w.plain.kinds ≡ b.kinds → TableFor w.plain.kinds (accepts w.plain) d
    → d.states ≤ 32 → Stands (called h (Ok (change (load w))) (count d.states)) d
load_done h b w s red d e k x l = done h b s red (load w) d (ap (λ o. first o None) e) l (λ S r. subst (λ z. TableFor z (accepts w.plain) d) k x)
