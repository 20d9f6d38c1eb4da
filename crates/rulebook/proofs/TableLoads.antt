-- Loading table bytes: the call that the bytes make.
use Rattle.std.proofs.Common.{◌≡◌, ℕ, List, Some, None, Ok, Err, sym, ◌∙◌, subst}
use Rattle.std.proofs.lemmas.Option.{none-some, same_Some}
use Rattle.ruling.specs.declared.refusal.Refusal.{Refusal}
use Rattle.ruling.specs.Refusals.{told}
use Rattle.ruling.specs.Meanings.{Meaning}
use Rattle.ruling.specs.Rulings.{Ruled}
use Rattle.table.specs.TableFiles.{table_fault, file_meaning}
use Rattle.rulebook.specs.Calls.{load, turn, change, ask, Made, Answer, refused}
use Rattle.rulebook.specs.Histories.{called, Stands, Follows}
use Rattle.rulebook.specs.declared.rulebook.Rulebook.{Rulebook}
use Rattle.rulebook.specs.Changes.{meaning_of, LoadOf}
use Rattle.rulebook.proofs.Props.{ruled_same}
use Rattle.rulebook.proofs.Stepping.{faulty}
use Rattle.rulebook.proofs.Gained.{reduced_of}

-- A file with a fault.
pub load_faulty : (b : Rulebook) (f : List ℕ) (r : Refusal) → table_fault f ≡ Some r → (c : Made) → LoadOf f c → Follows (meaning_of b) c (refused (told r)) (meaning_of b)
load_faulty b f r e (Err q) g h s = let p = same_Some r q (sym e ∙ g) in
    subst (λ z. Stands (called h (Err q) (refused (told z))) (meaning_of b)) (sym p) (faulty h (meaning_of b) s (reduced_of b) q)
load_faulty b f r e (Ok (change (load w))) g h s = absurd (none-some r (sym g.0 ∙ e))
load_faulty b f r e (Ok (change turn)) g h s = absurd g
load_faulty b f r e (Ok (ask q)) g h s = absurd g

-- A file without fault: a load of one ruling is a load of every ruling that means the same.
pub load_sound : (b d : Meaning) (f : List ℕ) (v : Ruled) (a : Answer) → table_fault f ≡ None → v.plain ≡ file_meaning f → Follows b (Ok (change (load v))) a d
    → (c : Made) → LoadOf f c → Follows b c a d
load_sound b d f v a e k x (Err q) g h s = absurd (none-some q (sym e ∙ g))
load_sound b d f v a e k x (Ok (change (load w))) g h s = subst (λ z. Stands (called h (Ok (change (load z))) a) d) (ruled_same v w (k ∙ sym g.1)) (x h s)
load_sound b d f v a e k x (Ok (change turn)) g h s = absurd g
load_sound b d f v a e k x (Ok (ask q)) g h s = absurd g
