-- The whole result at a glance, (0) to (viii). 1 ≤ m throughout; m ≤ 2 where a plan must be made from a row.
-- Assumes nothing.
use mathlib.Core.Logic.{◌↔◌, ◌⊎◌, inl, inr}
use mathlib.Core.Path.{◌≡◌, refl}
use Prim.Native.Nat.{ℕ, ◌+◌, ◌≤◌, ◌<◌}
use native.Mathlib.Omega.{arith}
use native.Mathlib.Nat.{le_trans}
use Rattle.schedule.specs.Row.{put, greatest}
use Rattle.schedule.specs.Jobs.{Jobs, Closed}
use Rattle.schedule.specs.Plan.{Valid, Meets, HasPlan, finish}
use Rattle.schedule.specs.Times.{Earliest, Breach, Beneath, HasRow, Latest}
use Rattle.schedule.specs.Make.{slots, seat}
use Rattle.schedule.specs.Listed.{Listed, Looped, Formed, Reads}
use Rattle.schedule.specs.Grow.{Extends, Added, Linked, Renumbered}
use Rattle.schedule.proofs.Rows.{greatest_bound, greatest_some}
use Rattle.schedule.proofs.Early.{exists_earliest, earliest_one}
use Rattle.schedule.proofs.Exist.{Verdict, latest, hopeless, verdict, plan_has_latest, latest_one}
use Rattle.schedule.proofs.Few.{Few, breach_few}
use Rattle.schedule.proofs.Greedy.{made_valid, made_meets, made_in_time, row_has_plan}
use Rattle.schedule.proofs.Seats.{placed_seat, placed_settled}
use Rattle.schedule.proofs.Chains.{reads_closed, reads_loopless, jobs, jobs_reads}
use Rattle.schedule.proofs.Grow.{Drawn, extends_self, added_extends, linked_extends, times_drawn, put_drawn, put_sooner, same_plans, resume, latest_falls}
use Rattle.schedule.proofs.Renumber.{earliest_along, latest_along}

-- (0) a list with no loop means jobs that are closed and have earliest times
pub list_has_times : (L : Listed) → Formed L → (Looped L → ⊥) → (J : Jobs) × Reads L J × Closed J × ((early : ℕ → ℕ) × Earliest J early)
list_has_times L k f =
    let r = jobs_reads L k in
    let c = reads_closed L (jobs L) r in
    (jobs L, r, c, exists_earliest (jobs L) c (reads_loopless L (jobs L) r f))

-- (i) latest times exist, or no consistent row lies beneath the deadlines and no valid plan meets them
pub latest_or_none : (m : ℕ) (J : Jobs) (early due : ℕ → ℕ) → 1 ≤ m → Earliest J early →
    ((row : ℕ → ℕ) × Latest m J early due row) ⊎ ((HasRow m J early due → ⊥) × (HasPlan m J due → ⊥))
latest_or_none m J early due pos e = go (verdict m J early due e pos)
  where
    go : Verdict m J early due → ((row : ℕ → ℕ) × Latest m J early due row) ⊎ ((HasRow m J early due → ⊥) × (HasPlan m J due → ⊥))
    go (latest row x f) = inl (row, x)
    go (hopeless x) = inr (x.no_row, x.no_plan)

-- (ii) a consistent row lies beneath the deadlines if and only if a valid plan meets them
pub row_iff_plan : (m : ℕ) (J : Jobs) (early due : ℕ → ℕ) → 1 ≤ m → m ≤ 2 → Closed J → Earliest J early → HasRow m J early due ↔ HasPlan m J due
row_iff_plan m J early due pos two closed e = (to, from)
  where
    to : HasRow m J early due → HasPlan m J due
    to x =
        let p = row_has_plan m J early x.0 pos two closed e x.1 in
        (p.0, p.1, record { ends = λ i l. le_trans (p.2.ends i l) (x.2 i l) })

    from : HasPlan m J due → HasRow m J early due
    from p =
        let x = plan_has_latest m J early due e pos p.0 p.1 p.2 in
        (x.0, x.1.consistent, x.1.beneath)

-- (iii) what holds of the plan made from the latest times, in `end` slots
pub record PlanMade (m : ℕ) (J : Jobs) (due row : ℕ → ℕ) (far end : ℕ) (slot : ℕ → ℕ) : Type 0 where
  pub valid : Valid m J slot
  pub meets : Meets J due slot
  pub placed : (i : ℕ) → i < J.size → (slot i < end) × ((c : ℕ) × (c < m) × (seat m J row far (slot i) c ≡ i))
  pub within : (i : ℕ) → i < J.size → slot i + 1 ≤ finish J slot
  pub attained : ((J.size ≡ 0) × (finish J slot ≡ 0)) ⊎ ((i : ℕ) × (i < J.size) × (slot i + 1 ≡ finish J slot))
  pub settled : (t i : ℕ) → i < J.size → finish J slot ≤ t → slots m J row far t i ≡ slot i

pub plan_made : (m : ℕ) (J : Jobs) (early due row : ℕ → ℕ) (far end : ℕ) → 1 ≤ m → m ≤ 2 → Closed J → Earliest J early → Latest m J early due row →
    greatest J.size row ≤ end → end ≤ far → PlanMade m J due row far end (slots m J row far end)
unfolding finish
plan_made m J early due row far end pos two closed e a top fits = record {
  valid = made_valid m J early row far end pos two closed e a.consistent fits high;
  meets = record { ends = λ i l. le_trans ((made_meets m J early row far end pos two closed e a.consistent fits high).ends i l) (a.beneath i l) };
  placed = λ i l. (in_time i l, placed_seat m J row far i end l (omega (arith, in_time i l)));
  within = ends;
  attained = greatest_some J.size (λ i. slots m J row far end i + 1);
  settled = λ t i l h. placed_settled m J row far i end l (omega (arith, in_time i l)) t (omega (arith, ends i l));
}
  where
    high : Beneath J row (λ i. end)
    high i l = le_trans (greatest_bound J.size row i l) top

    in_time : (i : ℕ) → i < J.size → slots m J row far end i < end
    in_time = made_in_time m J early row far end pos two closed e a.consistent fits high

    ends : (i : ℕ) → i < J.size → slots m J row far end i + 1 ≤ finish J (slots m J row far end)
    ends = greatest_bound J.size (λ i. slots m J row far end i + 1)

-- (iv) the earliest and the latest times are one row each
pub earliest_unique : (J : Jobs) (early other : ℕ → ℕ) → Earliest J early → Earliest J other → (i : ℕ) → i < J.size → early i ≡ other i
earliest_unique = earliest_one

pub latest_unique : (m : ℕ) (J : Jobs) (early due row other : ℕ → ℕ) → Latest m J early due row → Latest m J early due other → (i : ℕ) → i < J.size → row i ≡ other i
latest_unique = latest_one

-- (v) tightening onward from latest times is tightening from the deadlines as written, and refuses alike; (vii) it raises no latest time
pub record Resumes (m : ℕ) (J K : Jobs) (early times written onward : ℕ → ℕ) : Type 0 where
  pub same_times : (row : ℕ → ℕ) → Latest m K early written row ↔ Latest m K early onward row
  pub same_verdict : HasPlan m K written ↔ HasPlan m K onward
  pub falls : (row : ℕ → ℕ) → Latest m K early written row → Beneath J row times

module _ (m : ℕ) (pos : 1 ≤ m) (two : m ≤ 2) (J K : Jobs) (early early' due times : ℕ → ℕ) (closed : Closed K) (e : Earliest J early) (f : Earliest K early')
    (a : Latest m J early due times) where
  pub resumes : (written onward : ℕ → ℕ) → Extends J K → Beneath J written due → Drawn J K times written onward → Resumes m J K early' times written onward
  resumes written onward x sooner d = record {
    same_times = resume J K x m early early' pos e f due times written onward sooner a d two closed;
    same_verdict = (
      (λ p. (p.0, p.1, (same_plans J K x m early early' pos e f due times written onward sooner a d p.0 p.1).0 p.2)),
      (λ p. (p.0, p.1, (same_plans J K x m early early' pos e f due times written onward sooner a d p.0 p.1).1 p.2)),
    );
    falls = latest_falls J K x m early early' pos e f due times written onward sooner a d two closed;
  }

  -- a new job
  pub resume_new_job : (start deadline : ℕ) → Added J K start → Resumes m J K early' times (put due J.size deadline) (put times J.size deadline)
  resume_new_job start deadline x =
      resumes (put due J.size deadline) (put times J.size deadline) (added_extends J K start x)
      (put_sooner J due J.size deadline (λ h. absurd (omega arith)))
      (put_drawn J K due times J.size deadline (λ i l h. omega (arith, x.size)) a.beneath)

  -- a new order
  pub resume_new_order : (first second : ℕ) → Linked J K first second → Resumes m J K early' times due times
  resume_new_order first second x =
      resumes due times (linked_extends J K first second x) (λ i l. omega arith) (times_drawn J K due times x.size a.beneath)

-- an earlier deadline
pub resume_earlier_deadline : (m : ℕ) → 1 ≤ m → m ≤ 2 → (J : Jobs) (early due times : ℕ → ℕ) → Closed J → Earliest J early → Latest m J early due times →
    (job deadline : ℕ) → deadline ≤ due job → Resumes m J J early times (put due job deadline) (put times job deadline)
resume_earlier_deadline m pos two J early due times closed e a job deadline h =
    resumes m pos two J J early early due times closed e e a (put due job deadline) (put times job deadline) (extends_self J)
    (put_sooner J due job deadline (λ l. h)) (put_drawn J J due times job deadline (λ i l x. l) a.beneath)

-- (vi) a breach at any triple is a breach at one of the few: s an earliest time or the job's own time, d a time of the row
pub few_suffice : (m : ℕ) → 1 ≤ m → (J : Jobs) (early row : ℕ → ℕ) (i s d : ℕ) → Breach m J early row i s d → Few m J early row i
few_suffice = breach_few

-- (viii) jobs renumbered have their times renumbered alike
pub earliest_renumbered : (J K : Jobs) (of to early : ℕ → ℕ) → Renumbered J K of to → Earliest J early → Earliest K (λ i. early (of i))
earliest_renumbered J K of to early r = earliest_along J K of to r early (λ i. early (of i)) (λ i l. refl)

pub latest_renumbered : (m : ℕ) (J K : Jobs) (of to early due row : ℕ → ℕ) → Renumbered J K of to → Latest m J early due row →
    Latest m K (λ i. early (of i)) (λ i. due (of i)) (λ i. row (of i))
latest_renumbered m J K of to early due row r =
    latest_along m J K of to r early (λ i. early (of i)) due (λ i. due (of i)) row (λ i. row (of i)) (λ i l. refl) (λ i l. refl) (λ i l. refl)
