-- What records give, deadlines drawn in, and records that are stray.
-- Assumes nothing.
use mathlib.Core.List.{List, [], ◌∷◌, ◌++◌, append_assoc, append-nil}
use mathlib.Core.Logic.{⊎_elim}
use mathlib.Core.Path.{◌≡◌, refl, sym, ap, subst, ◌∙◌}
use Prim.Native.Nat.{ℕ, min, ◌*◌, ◌≤◌, ◌<◌}
use native.Mathlib.Nat.{mul-suc}
use native.Mathlib.Omega.{arith}
use lib.ListN.{length, get_or, length-append, length-set, get_or-append}
use lib.Seq.{get_or-append_seam}
use Rattle.text.proofs.Putting.{le_or_lt}
use Rattle.refusal.specs.Table.{Clear, Refuses}
use Rattle.records.specs.declared.Record.{Record}
use Rattle.records.specs.declared.Record.TheVariants.{Job, Order, Deadline}
use Rattle.verdict.specs.Gathered.{given, start_of, deadline_of, pair_of, drawn_by, drawn, Stray, stray_checks}

-- ---- what records give
pub given_last : (part : Record → List ℕ) (done : List Record) (r : Record) → given part (done ++ (r ∷ [])) ≡ given part done ++ part r
unfolding given
given_last part [] r = append-nil (part r)
given_last part (q ∷ done) r = ap (λ l. part q ++ l) (given_last part done r) ∙ sym (append_assoc (part q) (given part done) (part r))

pub given_few : (part : Record → List ℕ) (k : ℕ) (done : List Record) → ((r : Record) → length (part r) ≤ k) → length (given part done) ≤ k * length done
unfolding given
given_few part k [] h = omega arith
given_few part k (r ∷ done) h = omega (arith, length-append (part r) (given part done), h r, given_few part k done h, mul-suc k (length done))

pub start_few : (r : Record) → length (start_of r) ≤ 1
start_few (Job s d) = omega arith
start_few (Order a b) = omega arith
start_few (Deadline j d) = omega arith

pub pair_few : (r : Record) → length (pair_of r) ≤ 2
pair_few (Job s d) = omega arith
pair_few (Order a b) = omega arith
pair_few (Deadline j d) = omega arith

alike : (r : Record) → length (deadline_of r) ≡ length (start_of r)
alike (Job s d) = refl
alike (Order a b) = refl
alike (Deadline j d) = refl

pub given_alike : (done : List Record) → length (given deadline_of done) ≡ length (given start_of done)
unfolding given
given_alike [] = refl
given_alike (r ∷ done) = omega (arith, length-append (deadline_of r) (given deadline_of done), length-append (start_of r) (given start_of done), alike r, given_alike done)

-- ---- deadlines drawn in
pub drawn_last : (done : List Record) (r : Record) (row : List ℕ) → drawn (done ++ (r ∷ [])) row ≡ drawn_by r (drawn done row)
unfolding drawn
drawn_last [] r row = refl
drawn_last (q ∷ done) r row = drawn_last done r (drawn_by q row)

drawn_by_length : (r : Record) (row : List ℕ) → length (drawn_by r row) ≡ length row
drawn_by_length (Job s d) row = refl
drawn_by_length (Order a b) row = refl
drawn_by_length (Deadline j d) row = length-set row j (min (get_or row j 0) d)

pub drawn_length : (done : List Record) (row : List ℕ) → length (drawn done row) ≡ length row
unfolding drawn
drawn_length [] row = refl
drawn_length (q ∷ done) row = drawn_length done (drawn_by q row) ∙ drawn_by_length q row

-- ---- records that are stray
module _ (size : ℕ) (done : List Record) (r : Record) (more : List Record) where
  at_front : (i : ℕ) → i < length done → get_or (done ++ r ∷ more) i (Order 0 0) ≡ get_or done i (Order 0 0)
  at_front i l = get_or-append done (r ∷ more) (Order 0 0) i l

  front_clear : Clear (stray_checks size done) → (i : ℕ) → i < length done → Stray size (get_or (done ++ r ∷ more) i (Order 0 0)) → ⊥
  front_clear c i l x = c i l (subst (Stray size) (at_front i l) x)

  -- the first
  pub stray_first : Clear (stray_checks size done) → Stray size r → Refuses (stray_checks size (done ++ r ∷ more)) 5 (length done)
  stray_first c x = (length done, simp length-append (omega arith), front_clear c, (subst (Stray size) (sym (get_or-append_seam done r more (Order 0 0))) x, refl, refl))

-- one more that is not
pub clear_more : (size : ℕ) (done : List Record) (r : Record) → Clear (stray_checks size done) → (Stray size r → ⊥) → Clear (stray_checks size (done ++ (r ∷ [])))
clear_more size done r c f i l x =
    ⊎_elim
    (λ (here : length done ≤ i).
    let e : i ≡ length done = omega (arith, simp length-append at l) in
    f (subst (Stray size) (ap (λ j. get_or (done ++ (r ∷ [])) j (Order 0 0)) e ∙ get_or-append_seam done r [] (Order 0 0)) x))
    (λ (before : i < length done). front_clear size done r [] c i before x)
    (le_or_lt (length done) i)
