-- What a check answers, by what reading gives.
use Rattle.std.proofs.Common.{◌≡◌, ℕ, List, Ok, Err, Result, sym, refl, ap, ◌∙◌, arith}
use Rattle.ruling.specs.declared.refusal.Refusal.{Refusal}
use Rattle.ruling.specs.Trees.{Tree}
use Rattle.ruling.specs.Checks.{Answers}
use Rattle.record.specs.Reading.{read_record, fault_in, OneRecord}
use Rattle.record.specs.Laws.{Written, ReadsExactly}
use Rattle.record.proofs.Exact.{reads_all, one_record, reads_exactly}

module _ (ks : List ℕ) (limit : ℕ) (bytes : List ℕ) where
  -- the parts of the check's contract
  abbrev pub Said : Result (Unit {0}) Refusal → Type 0
  Said r = record { answer : Answers (fault_in (read_record ks limit bytes)) (λ _. OneRecord ks limit bytes) r; exact : (t : Tree) → Written ks limit bytes t → r ≡ Ok tt; law : ReadsExactly ks limit bytes }

  pub says_err : (e : Refusal) → read_record ks limit bytes ≡ Err e → Said (Err e)
  says_err e h = record {
    answer = ap fault_in h;
    exact = λ t w. let f : Ok t ≡ Err e = sym (reads_all ks limit bytes t w) ∙ h in cc;
    law = reads_exactly ks limit bytes;
  }

  pub says_ok : (t : Tree) → read_record ks limit bytes ≡ Ok t → Said (Ok tt)
  says_ok t h = record { answer = (ap fault_in h, one_record ks limit bytes t h); exact = λ _ _. refl; law = reads_exactly ks limit bytes }
