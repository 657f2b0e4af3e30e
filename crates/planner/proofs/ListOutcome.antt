-- A whole list has one outcome, and it is that of the requests one by one.
-- Assumes nothing.
use mathlib.Core.List.{List}
use mathlib.Core.Logic.{inl, ⊎_elim}
use mathlib.Core.Path.{◌≡◌, sym, ap, ◌∙◌}
use Prim.Native.Nat.{ℕ, ◌/◌, ◌≤◌, ◌<◌}
use native.Mathlib.Omega.{arith}
use lib.Dec.{T}
use lib.ListN.{length, get_or}
use lib.Seq.{ext_get_or}
use Rattle.schedule.specs.Listed.{Listed, link, Looped, Formed, written}
use Rattle.schedule.proofs.Tests.{le_or_lt, le_by}
use Rattle.std.specs.Prelude.{Result}
use Rattle.refusal.specs.declared.Refusal.{Refusal}
use Rattle.refusal.specs.Says.{Says}
use Rattle.refusal.specs.Table.{places, Clear, Table, One}
use Rattle.refusal.proofs.Table.{Each, each_map, among_each, table_one, table_past, table_free, table_nested, table_rest, table_last}
use Rattle.refusal.proofs.Says.{says_only}
use Rattle.book.specs.Told.{Book, Told, jobs_of, latest_of, row_in}
use Rattle.planner.proofs.Outcome.{sound_number, sound_some, sound_other}
use Rattle.planner.specs.List.{first_of, second_of, pairs_of, list_of, Misshapen, job_at, order_at, entries_checks, rows_checks, list_checks, Judged, judged, TurnedDown, Fitted, Judges, AsRequests}
use Rattle.planner.specs.Requests.{plan_check}
use Rattle.planner.specs.Inner.Entries.{Held}
use Rattle.schedule.proofs.Readings.{holds_one}
use Rattle.schedule.proofs.Onward.{holds_planned}
use Rattle.planner.proofs.Growing.{size_is}
use Rattle.planner.proofs.Pairs.{pairs_more, pairs_in}
use Rattle.planner.proofs.ListSound.{Sound, sound_entries, even_by}
use Rattle.planner.proofs.Orders.{held_clear, loop_none}
use Rattle.planner.proofs.OneByOne.{run_exists}

-- ---- one outcome
fitted_one : (L : Listed) (row : List ℕ) → One (Fitted L row)
fitted_one L row r s x y = x.accepts ∙ ap (λ (l : List ℕ). judged l 0 0) same ∙ sym y.accepts
  where
    same : r.row ≡ s.row
    same = ext_get_or 0 r.row s.row (x.same_length ∙ sym y.same_length) (λ i l. ⊎_elim
        (λ le. x.rest i le ∙ sym (y.rest i le))
        (λ lt. holds_one 2 L x.jobs y.jobs (row_in r.row) (row_in s.row) x.holds y.holds i (omega (arith, x.holds.reads.size)))
        (le_or_lt (length L.starts) i))

-- the promise of judge has one answer, and leaves one row
pub judges_only : (starts deadlines pairs row : List ℕ) → One (Judges starts deadlines pairs row)
judges_only starts deadlines pairs row =
    table_one (list_checks starts deadlines pairs row) (TurnedDown row) (Fitted (list_of starts deadlines pairs) row) (λ n v r s x y. x ∙ sym y) (fitted_one (list_of starts deadlines pairs) row)

pub list_answer_only : (starts deadlines pairs row after next : List ℕ) (r s : Result ℕ Refusal) →
    Says r (λ n v. Judges starts deadlines pairs row (judged after n v)) → Says s (λ n v. Judges starts deadlines pairs row (judged next n v)) → r ≡ s
list_answer_only starts deadlines pairs row after next r s x y =
    says_only _ _ r s (λ n v u w p o. let e = judges_only starts deadlines pairs row _ _ p o in (ap (λ (a : Judged). a.number) e, ap (λ (a : Judged). a.value) e)) x y

-- ---- numbers
pub entries_numbers : (starts deadlines pairs : List ℕ) → Each (λ n. T (sound_number n)) (entries_checks starts deadlines pairs)
entries_numbers starts deadlines pairs = ((λ i. (tt, tt)), ((λ p. (tt, tt)), λ p. (tt, tt)))

pub rows_numbers : (starts deadlines pairs row : List ℕ) → Each (λ n. T (sound_number n)) (rows_checks starts deadlines pairs row)
rows_numbers starts deadlines pairs row = (tt, (tt, entries_numbers starts deadlines pairs))

pub list_some : (starts deadlines pairs row : List ℕ) → Each (λ n. 1 ≤ n) (list_checks starts deadlines pairs row)
list_some starts deadlines pairs row =
    (each_map (λ n. T (sound_number n)) (λ n. 1 ≤ n) (rows_checks starts deadlines pairs row) sound_some (rows_numbers starts deadlines pairs row), omega arith)

-- ---- a list that is accepted has passed all checks
accepted_sound : (starts deadlines pairs row : List ℕ) (r : Judged) → Judges starts deadlines pairs row r → r.number ≡ 0 →
    Sound starts deadlines pairs × Fitted (list_of starts deadlines pairs) row r
accepted_sound starts deadlines pairs row r j a =
    let x = table_past (list_checks starts deadlines pairs row) (TurnedDown row) (Fitted (list_of starts deadlines pairs) row) r
    (λ n v m t. omega (arith, a, ap (λ (j : Judged). j.number) t, among_each (λ n. 1 ≤ n) (list_checks starts deadlines pairs row) n (list_some starts deadlines pairs row) m)) j in
    let s = x.0.0 in
    (sound_entries starts deadlines pairs (even_by starts deadlines pairs (λ u. s.0 (inl u))) (le_by _ 64 s.1.0) s.1.1, x.1)

-- ---- and any list that is well formed, has no loop, and whose jobs are few and in their limits, passes them
pub sound_by : (starts deadlines pairs : List ℕ) → Formed (list_of starts deadlines pairs) → (Looped (list_of starts deadlines pairs) → ⊥) → length starts ≤ 64 →
    ((i : ℕ) → i < length starts → Clear (job_at starts deadlines i)) → Sound starts deadlines pairs
sound_by starts deadlines pairs formed loopless few jobs = record {
  even = sym formed.even;
  few = few;
  jobs = jobs;
  held = record { below = λ p l. let h = formed.held (first_of pairs p) (second_of pairs p) (pairs_in pairs n p l) in held_clear p (length starts) (first_of pairs p) (second_of pairs p) h.0 h.1 };
  free = λ p l. loop_none p (pairs_of pairs p) (first_of pairs p) (second_of pairs p) (pairs_of pairs n) (λ x c. loopless (x, c)) (pairs_more pairs p n (omega arith)) (link (pairs_in pairs n p l));
}
  where
    n : ℕ
    n = length pairs / 2

-- what is left of the checks: 13, 6 and 4 for jobs that pass, and 4 for a sound list
module _ (starts deadlines pairs row : List ℕ) (r : Judged) (m : Misshapen starts deadlines pairs row → ⊥) (j : Judges starts deadlines pairs row r) where
  pub loops_last : length starts ≤ 64 → ((i : ℕ) → i < length starts → Clear (job_at starts deadlines i)) → Held (length starts) pairs →
      Table (places (length pairs / 2) (order_at pairs)) (TurnedDown row) (Table (plan_check (list_of starts deadlines pairs)) (TurnedDown row) (Fitted (list_of starts deadlines pairs) row)) r
  loops_last few jobs held = table_rest held.below (table_rest jobs (table_rest (λ l. omega arith) (table_rest m (table_nested _ _ _ _ r j))))

  pub sound_last : Sound starts deadlines pairs → Table (plan_check (list_of starts deadlines pairs)) (TurnedDown row) (Fitted (list_of starts deadlines pairs) row) r
  sound_last s = table_rest (m, ((λ l. omega (arith, s.few)), (s.jobs, (s.held.below, s.free)))) j

module _ (starts deadlines pairs : List ℕ) (k : Book) (t : Told k (list_of starts deadlines pairs)) where
  abbrev L : Listed
  L = list_of starts deadlines pairs

  told_sound : Sound starts deadlines pairs
  unfolding written
  told_sound = sound_by starts deadlines pairs t.holds.formed t.holds.loopless (omega (arith, size_is L k t, t.shaped.few))
      (λ i l. ((λ v. ⊎_elim (λ g. omega (arith, t.limited.start i l)) (λ g. omega (arith, t.limited.deadline i l)) v), λ g. window i l g))
    where
      window : (i : ℕ) → i < length starts → get_or deadlines i 0 ≤ get_or starts i 0 → ⊥
      window i l g =
          let h : i < k.size = omega (arith, size_is L k t) in
          omega (arith, t.holds.latest.consistent.window i h, t.holds.latest.beneath i h, t.holds.earliest.raised.above i h, t.holds.reads.start i h)

  module _ (row : List ℕ) (r : Judged) (j : Judges starts deadlines pairs row r) where
    told_fitted : (Misshapen starts deadlines pairs row → ⊥) → Fitted L row r
    told_fitted m = table_free _ _ _ r (λ no. no (holds_planned 2 (omega arith) (omega arith) L (jobs_of k) (latest_of k) t.holds)) (sound_last starts deadlines pairs row r m j told_sound)

    -- so it is not refused by 4: a list refused by its form is not, and any other is accepted
    told_not_4 : r.number ≡ 4 → ⊥
    told_not_4 e =
        let x = table_last (rows_checks starts deadlines pairs row) (plan_check L) (TurnedDown row) (Fitted L row) r 4
        (each_map (λ n. T (sound_number n)) (λ n. 4 ≡ n → ⊥) (rows_checks starts deadlines pairs row) sound_other (rows_numbers starts deadlines pairs row))
        (λ m w a. sym (ap (λ (j : Judged). j.number) a) ∙ e) (λ g. omega (arith, e, ap (λ (j : Judged). j.number) g.accepts)) j in
        x.2.0 (holds_planned 2 (omega arith) (omega arith) L (jobs_of k) (latest_of k) t.holds)

    told_times : Fitted L row r → (i : ℕ) → i < length starts → row_in r.row i ≡ latest_of k i
    told_times f i l = holds_one 2 L f.jobs (jobs_of k) (row_in r.row) (latest_of k) f.holds t.holds i (omega (arith, f.holds.reads.size))

-- the whole list at once is the requests one by one
pub list_is_requests : (starts deadlines pairs row : List ℕ) (r : Judged) → Judges starts deadlines pairs row r → AsRequests starts deadlines pairs row r
list_is_requests starts deadlines pairs row r j = record {
  run = λ a.
      let x = accepted_sound starts deadlines pairs row r j a in
      run_exists starts deadlines pairs x.0 (holds_planned 2 (omega arith) (omega arith) (list_of starts deadlines pairs) x.1.jobs (row_in r.row) x.1.holds);
  accepted = λ m k t. ap (λ (j : Judged). j.number) (told_fitted starts deadlines pairs k t row r j m).accepts;
  refused = λ e k t. told_not_4 starts deadlines pairs k t row r j e;
  times = λ a k t. told_times starts deadlines pairs k t row r j (accepted_sound starts deadlines pairs row r j a).1;
}
