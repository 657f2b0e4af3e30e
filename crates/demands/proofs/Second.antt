-- Demand 2: a plan handed out is valid, in time, finishes when told, and shows nothing else; "no plan" only where there is none; a book written and read is the same book.
-- Assumes nothing.
use mathlib.Core.List.{List, ◌++◌}
use mathlib.Core.Logic.{inl, inr, ⊎_elim}
use mathlib.Core.Path.{◌≡◌, sym, ap, subst, ◌∙◌}
use Prim.Native.Nat.{ℕ, ◌*◌}
use native.Mathlib.Omega.{arith}
use lib.Dec.{T}
use lib.ListN.{drop}
use lib.Seq.{drop-append_seam}
use Rattle.schedule.specs.Listed.{Listed, written}
use Rattle.schedule.proofs.Timed.{no_plan_no_timed}
use Rattle.schedule.proofs.Clock.{plan_clock, plan_clock_meets, clocked_iff_plan}
use Rattle.schedule.proofs.Loop.{bytes_length}
use Rattle.refusal.specs.Table.{refused, passed}
use Rattle.refusal.proofs.Table.{each_map, table_last}
use Rattle.book.specs.Told.{Book, jobs_of, latest_of, Told}
use Rattle.planner.specs.declared.requests.Request.{Request}
use Rattle.planner.specs.Requests.{Plannable, sound_checks, plan_check, accepts_with, Applied, Turned, Grown, Outcome, grow}
use Rattle.planner.specs.List.{list_of, rows_checks, Judged, TurnedDown, Fitted, Judges}
use Rattle.planner.proofs.Outcome.{sound_number, sound_other, sound_numbers}
use Rattle.planner.proofs.ListOutcome.{rows_numbers}
use Rattle.plan.specs.Plan.{unplaced, plan_of, finish_of, bytes_of, Plans}
use Rattle.plan.specs.Place.{core_of}
use Rattle.plan.proofs.Shown.{plan_shown}
use Rattle.jobfile.proofs.RoundTrip.{round_trip}
use Rattle.demands.specs.Demands.{Shown, NoSchedule, Demand2}

-- ---- a plan handed out
module _ (L : Listed) (k : Book) (t : Told k L) where
  beyond : (old new : List ℕ) (told : ℕ) → told ≡ finish_of k → Plans k old new 0 told → drop (2 * told) new ≡ drop (2 * told) old
  beyond old new told ends (refused c w x e) = let number : ◌≡◌ {A = ℕ} 0 8 = ap (λ r. r.0) e ∙ x.1 in absurd (omega arith)
  beyond old new told ends (passed f e) = rw (ends, ap (λ r. r.2) e)
      (subst (λ n. drop n (bytes_of k ++ drop (2 * finish_of k) old) ≡ drop (2 * finish_of k) old) (bytes_length (jobs_of k) (latest_of k) unplaced (finish_of k))
      (drop-append_seam (bytes_of k) (drop (2 * finish_of k) old)))

  handed : (old new : List ℕ) (told : ℕ) → Plans k old new 0 told → Shown L k old new told
  handed old new told p =
      let s = plan_shown k (L, t) old new told p in
      record {
        slot = plan_of k;
        core = core_of k;
        valid = s.valid;
        meets = s.deadlines;
        clocks = λ C. (plan_clock C 2 (jobs_of k) (plan_of k) s.valid, plan_clock_meets C 2 (jobs_of k) (plan_of k) (written L) s.deadlines);
        finishes = s.answer;
        seats = s.each;
        others = λ u c hu hc. ⊎_elim inl (λ x. inr (x.0, x.1, x.3, x.4)) (s.others u c hu hc);
        rest = beyond old new told s.answer p;
      }

-- ---- no plan
pub no_schedule : (L : Listed) → (Plannable L → ⊥) → NoSchedule L
no_schedule L none = record {
  whole = λ J r p. none (J, r, p);
  parts = λ J u r pos s. no_plan_no_timed 2 u pos J (written L) (λ p. none (J, r, p)) s;
  clocks = λ J C r s. none (J, r, (clocked_iff_plan C 2 J (written L)).0 s);
}

-- after 4 the grown list has no plan
pub refused_none : (L : Listed) (k : Book) (q : Request) (r : Applied) → r.number ≡ 4 → Outcome L k q r → Plannable (grow L q) → ⊥
refused_none L k q r e o = (table_last (sound_checks L q) (plan_check (grow L q)) (Turned k) (Grown (grow L q) (accepts_with L q)) r 4
    (each_map (λ n. T (sound_number n)) (λ n. 4 ≡ n → ⊥) (sound_checks L q) sound_other (sound_numbers L q))
    (λ m w a. sym (ap (λ (z : Applied). z.number) a) ∙ e) (λ g. omega (arith, e, ap (λ (z : Applied). z.number) g.accepts)) o).2.0

-- the same of a whole list
judged_none : (starts deadlines pairs old : List ℕ) (r : Judged) → Judges starts deadlines pairs old r → r.number ≡ 4 → Plannable (list_of starts deadlines pairs) → ⊥
judged_none starts deadlines pairs old r o e =
    (table_last (rows_checks starts deadlines pairs old) (plan_check (list_of starts deadlines pairs)) (TurnedDown old) (Fitted (list_of starts deadlines pairs) old) r 4
    (each_map (λ n. T (sound_number n)) (λ n. 4 ≡ n → ⊥) (rows_checks starts deadlines pairs old) sound_other (rows_numbers starts deadlines pairs old))
    (λ m w a. sym (ap (λ (z : Judged). z.number) a) ∙ e) (λ g. omega (arith, e, ap (λ (z : Judged). z.number) g.accepts)) o).2.0

pub demand_2 : Demand2
demand_2 = record {
  plan = λ L k old new told t. handed L k t old new told;
  none = λ L k q r t x e. no_schedule (grow L q) (refused_none L k q r e (x.outcome L t));
  none_listed = λ starts deadlines pairs old r j e. no_schedule (list_of starts deadlines pairs) (judged_none starts deadlines pairs old r j e);
  same_book = round_trip;
}
