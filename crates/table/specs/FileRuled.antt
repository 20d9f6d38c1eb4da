-- What a table file means is well formed.
use Rattle.std.specs.Prelude.{◌≡◌, ℕ, zero, suc, ◌+◌, ◌*◌, ◌^◌, ◌<◌, ◌≤◌, Bool, true, false, cond, ◌||◌, ◌⊎◌, List, length, is_some, Some, None, Option, ◌==◌, nat_eq, nat_le, refl}
use Rattle.std.proofs.Common.{sym, ◌∙◌, ap, subst, inl, inr, pow-suc, one-mul, arith, length-take, length-drop, leb-false, eq-eqb}
use Rattle.std.proofs.Math.Decide.{ℕ_discrete}
use Rattle.std.proofs.Math.Nat.{pow-zero, mul-le-mul}
use Rattle.std.proofs.lemmas.Nat.{mul-add-lt}
use Rattle.std.proofs.lemmas.Bool.{or_parts, or_from, eqb-false, lt-leb}
use Rattle.ruling.specs.Checks.{lowest}
use Rattle.ruling.specs.KindLists.{KindList}
use Rattle.ruling.specs.Meanings.{Fits, none, one, two, Complete}
use Rattle.ruling.proofs.Lowest.{none_lowest}
use Rattle.table.specs.TableFiles.{byte_at, states_in, kind_count_in, ranks_in, rank_at, offset_at, length_at, cell_number, cell_at, TableFile, table_fault, missing_from, missing, led, file_meaning}
use Rattle.table.specs.FileParts.{Headed}
use Rattle.table.specs.Faults.{faultless_file, file_inside}

-- the kinds are as many as the file says
pub kind_count : (f : List ℕ) → Headed f → length (ranks_in f) ≡ kind_count_in f
kind_count f h = simp (length-take, length-drop) (omega arith)

-- powers to a rank
pub pow_0 : (n r : ℕ) → r ≡ 0 → 1 ≡ n ^ r
pow_0 n r e = sym (ap (λ (x : ℕ). n ^ x) e ∙ pow-zero n)

pub pow_1 : (n r : ℕ) → r ≡ 1 → n ≡ n ^ r
pow_1 n r e = sym (ap (λ (x : ℕ). n ^ x) e ∙ (pow-suc n 0 ∙ (ap (λ (x : ℕ). x * n) (pow-zero n) ∙ one-mul n)))

pub pow_2 : (n r : ℕ) → r ≡ 2 → n * n ≡ n ^ r
pow_2 n r e = sym (ap (λ (x : ℕ). n ^ x) e ∙ (pow-suc n 1 ∙ ap (λ (x : ℕ). x * n) (sym (pow_1 n 1 refl))))

pub power_few : (n r : ℕ) → n ≤ 32 → r ≤ 2 → n ^ r ≤ 1024
power_few n zero a b = let w = pow_0 n 0 refl in omega arith
power_few n (suc zero) a b = let w = pow_1 n 1 refl in omega arith
power_few n (suc (suc zero)) a b = let w = pow_2 n 2 refl in let v = mul-le-mul a a in omega arith
power_few n (suc (suc (suc r))) a b = absurd (omega arith)

none_of : {A : Type 0} (o : Option A) → is_some o ≡ false → o ≡ None
none_of None e = refl
none_of (Some x) e = cc

pub faultless : (f : List ℕ) → is_some (table_fault f) ≡ false → TableFile f
faultless f e = faultless_file f (none_of (table_fault f) e)

pub headed : (f : List ℕ) → TableFile f → Headed f
headed f t = record { some_states = t.states.0; few_states = t.states.1; some_kinds = t.kinds.0; few_kinds = t.kinds.1; whole = t.whole; short = t.size }

pub file_list : (f : List ℕ) → TableFile f → KindList (ranks_in f)
file_list f t = let e = kind_count f (headed f t) in let k = t.kinds in (omega arith, omega arith, t.ranks)

state_bounds : (n : ℕ) (b : Bool) → 1 ≤ n → n ≤ 32 → (0 < cond b (suc n) n) × (cond b (suc n) n ≤ 1089)
state_bounds n true l u = (omega arith, omega arith)
state_bounds n false l u = (omega arith, omega arith)

pub file_some : (f : List ℕ) → TableFile f → 0 < (file_meaning f).states
file_some f t = (state_bounds (states_in f) (missing f) t.states.0 t.states.1).0

pub file_few : (f : List ℕ) → TableFile f → (file_meaning f).states ≤ 1089
file_few f t = (state_bounds (states_in f) (missing f) t.states.0 t.states.1).1

-- no cell is 255 where no rule is missing
none_missing : (f : List ℕ) (k c : ℕ) → missing_from f k c ≡ false → (j p : ℕ) → k ≤ j → j < k + c → offset_at f j ≤ p → p < offset_at f j + length_at f j
    → (byte_at f p == 255) ≡ false
none_missing f k zero e j p l u a b = absurd (omega arith)
none_missing f k (suc c) e j p l u a b =
    let w = or_parts (is_some (lowest (λ p. nat_eq (byte_at f p) 255) (offset_at f k) (length_at f k))) (missing_from f (suc k) c) e in
    go (ℕ_discrete k j) (none_of _ w.0) (λ g. none_missing f (suc k) c w.1 j p g (omega arith) a b)
  where
    go : Dec (k ≡ j) → lowest (λ p. nat_eq (byte_at f p) 255) (offset_at f k) (length_at f k) ≡ None → (suc k ≤ j → (byte_at f p == 255) ≡ false) → (byte_at f p == 255) ≡ false
    go (yes q) w later = none_lowest (λ p. nat_eq (byte_at f p) 255) (offset_at f j) (length_at f j)
        (subst (λ m. lowest (λ p. nat_eq (byte_at f p) 255) (offset_at f m) (length_at f m) ≡ None) q w) p a b
    go (no q) w later = later (omega arith)

-- a cell stands in its kind's block
pub cell_inside : (n r a b : ℕ) → r ≤ 2 → a < n → b < n → cell_number n r a b < n ^ r
cell_inside n zero a b h l u = let w = pow_0 n 0 refl in omega arith
cell_inside n (suc zero) a b h l u = let w = pow_1 n 1 refl in omega arith
cell_inside n (suc (suc zero)) a b h l u = let w = pow_2 n 2 refl in let v = mul-add-lt a n b n l u in omega arith
cell_inside n (suc (suc (suc r))) a b h l u = absurd (omega arith)

pub cell_in_block : (f : List ℕ) → TableFile f → (k a b : ℕ) → k < kind_count_in f → a < states_in f → b < states_in f
    → cell_number (states_in f) (rank_at f k) a b < length_at f k
cell_in_block f t k a b l p q =
    let e = kind_count f (headed f t) in
    let s = t.lengths k l in
    let v = cell_inside (states_in f) (rank_at f k) a b (t.ranks k (omega arith)) p q in omega arith

-- and in the file
pub cell_in_file : (f : List ℕ) → TableFile f → (k a b : ℕ) → k < kind_count_in f → a < states_in f → b < states_in f
    → offset_at f k + cell_number (states_in f) (rank_at f k) a b < length f
cell_in_file f t k a b l p q =
    let v = cell_in_block f t k a b l p q in
    let w = file_inside f t k l in omega arith

module _ (ks : List ℕ) (m k a b : ℕ) where
  pub fits_kind : Fits ks m k a b → k < length ks
  fits_kind (none x y z) = x.0
  fits_kind (one x y z) = x.0
  fits_kind (two x y z) = x.0

  pub fits_below : 0 < m → Fits ks m k a b → (a < m) × (b < m)
  fits_below p (none x y z) = (omega arith, omega arith)
  fits_below p (one x y z) = (y, omega arith)
  fits_below p (two x y z) = (y, z)

led_some : (n x : ℕ) → (x < n) ⊎ (x ≡ 255) → led n x < suc n
led_some n x (inl l) = go (x == 255)
  where
    go : (b : Bool) → cond b n x < suc n
    go true = omega arith
    go false = omega arith
led_some n x (inr e) = subst (λ b. cond b n x < suc n) (sym (eq-eqb x 255 e)) (omega arith)

led_all : (n x : ℕ) → (x < n) ⊎ (x ≡ 255) → (x == 255) ≡ false → led n x < n
led_all n x (inl l) e = subst (λ b. cond b n x < n) (sym e) l
led_all n x (inr q) e = absurd (eqb-false x 255 e q)

pub file_complete : (f : List ℕ) → TableFile f → Complete (ranks_in f) (file_meaning f)
file_complete f t k a b fit = go (missing f) refl (nat_le (states_in f) a || nat_le (states_in f) b) refl fit
  where
    inside : a < states_in f → b < states_in f → Fits (ranks_in f) (file_meaning f).states k a b
        → (k < kind_count_in f) × (cell_number (states_in f) (rank_at f k) a b < length_at f k)
    inside p q w =
        let l = fits_kind (ranks_in f) _ k a b w in
        let e = kind_count f (headed f t) in
        let u : k < kind_count_in f = omega arith in
        (u, cell_in_block f t k a b u p q)

    below : (nat_le (states_in f) a || nat_le (states_in f) b) ≡ false → (a < states_in f) × (b < states_in f)
    below q = let w = or_parts (nat_le (states_in f) a) (nat_le (states_in f) b) q in (leb-false (states_in f) a w.0, leb-false (states_in f) b w.1)

    go : (m : Bool) → missing f ≡ m → (p : Bool) → (nat_le (states_in f) a || nat_le (states_in f) b) ≡ p → Fits (ranks_in f) (file_meaning f).states k a b
        → (file_meaning f).target k a b < (file_meaning f).states
    go true e true q w = rw (q, e) (omega arith)
    go true e false q w =
        let l = below q in
        let i = inside l.0 l.1 w in
        rw (q, e) (led_some (states_in f) (cell_at f k a b) (t.cells k _ i.0 i.1))
    go false e true q w =
        let s : 0 < (file_meaning f).states = file_some f t in
        let n : (file_meaning f).states ≡ states_in f = ap (λ b. cond b (suc (states_in f)) (states_in f)) e in
        let l = fits_below (ranks_in f) _ k a b s w in
        let z = or_from (nat_le (states_in f) a) (nat_le (states_in f) b) (lt-leb (states_in f) a (omega (arith, l.0))) (lt-leb (states_in f) b (omega (arith, l.1))) in
        let y : ◌≡◌ {A = ℕ} 0 1 = cc in absurd (omega arith)
    go false e false q w =
        let l = below q in
        let i = inside l.0 l.1 w in
        rw (q, e) (led_all (states_in f) (cell_at f k a b) (t.cells k _ i.0 i.1)
        (none_missing f 0 (kind_count_in f) e k (offset_at f k + cell_number (states_in f) (rank_at f k) a b) (omega arith) (omega (arith, i.0)) (omega arith) (omega (arith, i.1))))
