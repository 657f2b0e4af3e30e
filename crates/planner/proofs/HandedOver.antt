-- Times handed over from row to row.
-- Assumes nothing.
use mathlib.Core.Bool.{Bool, true, false}
use mathlib.Core.List.{List}
use mathlib.Core.Logic.{⊎_elim}
use mathlib.Core.Path.{◌≡◌, refl, sym, ap, subst, ◌∙◌, fun_ext}
use Prim.Native.Nat.{ℕ, ◌≤◌}
use native.Mathlib.Omega.{arith}
use lib.ListN.{length, get_or, take, drop, replicate, length-append, length-take, length-drop, get_or-eq_default}
use lib.Seq.{take_all}
use Rattle.std.proofs.Common.{rules}
use Rattle.std.proofs.lemmas.List.{places}
use Rattle.std.proofs.lemmas.Slice.{between_is, between-put_mid, take-put_mid_below}
use borrow.Rule.Slice.PartMut.{put_mid}
use Rattle.schedule.specs.Plan.{HasPlan}
use Rattle.schedule.specs.Times.{Earliest, Latest}
use Rattle.schedule.proofs.Tests.{le_or_lt}
use Rattle.book.specs.Told.{cores, part, jobs_in, row_in}
use Rattle.planner.specs.Inner.Tighten.{Tightens}
use Rattle.refusal.specs.Table.{refused, passed}
use Rattle.planner.specs.List.{judged}
use Rattle.planner.specs.Inner.Requests.{Keeps}
use Rattle.planner.specs.Inner.List.{Judgeable, Hands, Settles}
use Rattle.book.proofs.Empty.{zeros}
use Rattle.planner.proofs.Tightened.{tightens_whether}

-- the first times of a row, written over those of another
hands_put : (size : ℕ) (times row front : List ℕ) → size ≤ length times → size ≤ length row → front ≡ take size times → Hands size times row (put_mid 0 size row front)
hands_put size times row front l m e =
    let long : length front ≡ size = ap length e ∙ simp length-take (omega arith) in
    record {
      same_length = search (rules, places);
      front = λ i h.
          let here : get_or (put_mid 0 size row front) i 0 ≡ get_or front i 0 = search (rules, places) in
          let first : get_or (take size times) i 0 ≡ get_or times i 0 = search (rules, places) in
          here ∙ rw e first;
      rest = λ i h. search (rules, places);
    }

-- ---- latest times, written to their place in a book
pub keeps_put : (row times : List ℕ) → length row ≡ 64 → 129 ≤ length times → Keeps row times (put_mid 65 64 times row)
unfolding part
keeps_put row times l m = record { same_length = simp (length-append, length-take, length-drop) (omega arith); book = λ before. λ i. record { size = size i; start = start i; latest = latest i; before = before } }
  where
    after : List ℕ
    after = put_mid 65 64 times row

    size : get_or after 0 0 ≡ get_or times 0 0
    size = search (rules, places)

    start : part 1 after ≡ part 1 times
    start = between_is after 1 65 ∙ ap (drop 1) (take-put_mid_below 65 64 times row 65 (omega arith) (omega arith)) ∙ sym (between_is times 1 65)

    latest : part 65 after ≡ row
    latest = between-put_mid 65 64 times row 129 (omega arith) l

-- ---- deadlines, written over zeros: to tighten that row is to tighten the row lent
module _ (starts deadlines before front : List ℕ) (s : Judgeable starts deadlines before) (e : front ≡ deadlines) where
  abbrev due : List ℕ
  due = put_mid 0 (length starts) (replicate 64 0) front

  hd : Hands (length starts) deadlines (replicate 64 0) due
  hd = hands_put (length starts) deadlines (replicate 64 0) front (omega (arith, s.even)) s.few (e ∙ sym (take_all (length starts) deadlines (omega (arith, s.even))))

  alike : row_in due ≡ row_in deadlines
  alike = fun_ext (λ i. ⊎_elim (λ le. hd.rest i le ∙ zeros 64 i ∙ sym (get_or-eq_default deadlines 0 (omega (arith, s.even)))) (λ lt. hd.front i lt) (le_or_lt (length starts) i))

  module _ (times : List ℕ) (found : Bool) (t : Tightens cores (length starts) starts before due times found) where
    latest_lent : found ≡ true → (early : ℕ → ℕ) → Earliest (jobs_in (length starts) starts before) early → Latest 2 (jobs_in (length starts) starts before) early (row_in deadlines) (row_in times)
    latest_lent e = subst (λ (f : ℕ → ℕ). (early : ℕ → ℕ) → Earliest (jobs_in (length starts) starts before) early → Latest 2 (jobs_in (length starts) starts before) early f (row_in times)) alike (t.latest e)

    pub settles_fits : (row first : List ℕ) → length starts ≤ length row → first ≡ take (length starts) times → found ≡ true → Settles starts deadlines before row (judged (put_mid 0 (length starts) row first) 0 0)
    settles_fits row first l h e =
        passed (λ no. no (subst (HasPlan cores (jobs_in (length starts) starts before)) alike ((tightens_whether (length starts) starts before due times found s.closed s.loopless t).yes e)))
        (record { accepts = refl; times = times; latest = latest_lent e; handed = hands_put (length starts) times row first (omega (arith, s.few, t.length)) l h })

    pub settles_none : (row : List ℕ) → found ≡ false → Settles starts deadlines before row (judged row 4 0)
    settles_none row e = refused 4 0 (subst (λ (f : ℕ → ℕ). HasPlan 2 (jobs_in (length starts) starts before) f → ⊥) alike (t.none e), refl, refl) refl
