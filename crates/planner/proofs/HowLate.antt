-- How late and how short: where the search begins, what it finds, and one outcome.
-- Assumes nothing.
use mathlib.Core.Bool.{Bool, true, false, cond}
use mathlib.Core.List.{List}
use mathlib.Core.Logic.{inl, inr}
use mathlib.Core.Path.{◌≡◌, refl, sym, ap, ap₂, ◌∙◌}
use Prim.Native.Nat.{ℕ, suc, ◌-◌, ◌/◌, ◌^◌, ◌≤◌, ◌<◌}
use native.Mathlib.Omega.{arith}
use lib.Dec.{T, ltb}
use lib.IntN.{ℤ, pos, negsuc}
use lib.Signed.{mag}
use lib.ListN.{length}
use mir.Syntax.{w16}
use mir.Val.{SFits}
use Rattle.schedule.specs.Jobs.{Jobs}
use Rattle.schedule.specs.Plan.{HasPlan}
use Rattle.schedule.specs.Listed.{Listed, Reads, written}
use Rattle.schedule.specs.Late.{Lateness, moved, InLimits, Ranged}
use Rattle.schedule.specs.Shortest.{Shortest, capped}
use Rattle.schedule.specs.Theory.Lowest.{Lowest, Narrowed}
use Rattle.schedule.proofs.Tests.{le_by}
use Rattle.schedule.proofs.Early.{exists_earliest}
use Rattle.schedule.proofs.Chains.{reads_closed, reads_loopless}
use Rattle.schedule.proofs.Readings.{plan_one}
use Rattle.schedule.proofs.Late.{lateness_iff, lateness_one, lateness_same, late_outset, lateness_ranged}
use Rattle.schedule.proofs.Shortest.{shortest_iff, shortest_one, shortest_same, shortest_empty, short_outset}
use Rattle.refusal.specs.Table.{check, ◌then◌, Refuses, refused, passed, One}
use Rattle.std.specs.Prelude.{Result, Ok, Err, ⊤}
use Rattle.refusal.specs.declared.Refusal.{Refusal}
use Rattle.refusal.specs.Says.{Says, refused_by}
use Rattle.refusal.proofs.Table.{Each, each_map, among_each, then_table, table_one, table_past}
use Rattle.refusal.proofs.Says.{number_within, number_one, says_only}
use Rattle.book.specs.Told.{cores, jobs_in, row_in}
use Rattle.planner.specs.List.{list_of, Uneven, entries_checks}
use Rattle.planner.specs.Late.{Lates, late_checks, from_origin, LateAs, Latens, lone_checks, short_checks, ShortAs, Shortens}
use Rattle.planner.specs.Inner.Entries.{Spells, Checked}
use Rattle.planner.specs.Inner.List.{Judgeable}
use Rattle.planner.specs.Inner.Late.{moved_by, capped_at, Leaves}
use Rattle.planner.proofs.Outcome.{sound_number, sound_some}
use Rattle.planner.proofs.ListOutcome.{entries_numbers}
use Rattle.planner.proofs.ListSound.{Sound, loopless, even_by, sound_entries, sound_counted, checked_judgeable, reads}

-- ---- a whole number in 16 bits
pub origin_fits : (y : ℕ) → y ≤ 8254 → SFits w16 (from_origin y)
origin_fits y h = record { sfits = go (ltb y 4096) }
  where
    go : (b : Bool) → mag (cond b (negsuc (4096 - suc y)) (pos (y - 4096))) < 2 ^ 15
    go true = omega arith
    go false = omega arith

-- ---- how late: a list of some jobs, refused by what comes behind 14
pub late_refused : (starts deadlines pairs : List ℕ) (n v : ℕ) → (Uneven starts deadlines pairs → ⊥) → (length starts ≡ 0 → ⊥) →
    Refuses (check 1 0 (64 < length starts) then entries_checks starts deadlines pairs) n v → Latens starts deadlines pairs n (pos v)
late_refused starts deadlines pairs n v even some (inl x) = refused n v (inr (even, inl x)) refl
late_refused starts deadlines pairs n v even some (inr x) = refused n v (inr (even, inr (x.0, inr (some, x.1)))) refl

-- ---- a sound list that has jobs
module _ (starts deadlines pairs : List ℕ) (s : Sound starts deadlines pairs) (J : Jobs) (r : Reads (list_of starts deadlines pairs) J) where
  limits : InLimits J (written (list_of starts deadlines pairs))
  unfolding written
  limits = record {
    few = omega (arith, s.few, r.size);
    start = λ i l. rw (r.start i l) (le_by _ 4095 (λ g. (s.jobs i (omega (arith, r.size))).0 (inl g)));
    above = λ i l. le_by 1 _ (λ g. (s.jobs i (omega (arith, r.size))).1 (omega arith));
    below = λ i l. le_by _ 4096 (λ g. (s.jobs i (omega (arith, r.size))).0 (inr g));
  }

  pub late_ranged : 0 < length starts → (y : ℕ) → Lateness cores J (written (list_of starts deadlines pairs)) 4096 y → Ranged y
  late_ranged some y x =
      let e = exists_earliest J (reads_closed (list_of starts deadlines pairs) J r) (reads_loopless (list_of starts deadlines pairs) J r (loopless starts deadlines pairs s)) in
      lateness_ranged cores J (written (list_of starts deadlines pairs)) e.0 (omega arith) e.1 limits (omega (arith, r.size)) y x

-- rows that have passed the checks of the entries
module _ (starts deadlines pairs before : List ℕ) (even : Uneven starts deadlines pairs → ⊥) {x : ⊤} (c : Checked starts deadlines pairs before (Ok x)) where
  abbrev L : Listed
  L = list_of starts deadlines pairs

  abbrev J : Jobs
  J = jobs_in (length starts) starts before

  sound : Sound starts deadlines pairs
  sound = sound_counted starts deadlines pairs even c.passes

  spells : Spells pairs (length pairs / 2) before
  spells = c.spells refl

  judgeable : Judgeable starts deadlines before
  judgeable = checked_judgeable starts deadlines pairs before even c

  checked_reads : Reads L J
  checked_reads = reads starts deadlines pairs before sound spells

  pub late_begins : 0 < length starts → Narrowed (Leaves moved_by starts deadlines before) 1 8254
  unfolding moved written
  late_begins some =
      let j = judgeable in
      let e = exists_earliest J j.closed j.loopless in
      late_outset cores J (row_in deadlines) e.0 (omega arith) e.1 (limits starts deadlines pairs sound J checked_reads) some

  pub late_ends : (length starts ≡ 0 → ⊥) → (y : ℕ) → Lowest (Leaves moved_by starts deadlines before) y → Latens starts deadlines pairs 0 (from_origin y)
  unfolding moved written
  late_ends some y l = passed (even, (c.passes.0, (some, c.passes.1)))
      (record { jobs = J; reads = checked_reads; y = y; lateness = (lateness_iff cores J (row_in deadlines) 4096 y).1 l; tells = refl })

  -- ---- how short
  -- a plan meets the deadlines
  short_by : (end : ℕ) → Shortest cores J (row_in deadlines) end → Shortens starts deadlines pairs 0 end
  unfolding written
  short_by end l = then_table (even, c.passes) (passed (λ no. no (J, checked_reads, (l.reached.0, l.reached.1, l.reached.2)))
      (record { jobs = J; reads = checked_reads; end = end; shortest = l; tells = refl }))

  pub short_none : length starts ≡ 0 → Shortens starts deadlines pairs 0 0
  short_none z = short_by 0 (shortest_empty cores J (row_in deadlines) z)

  -- no deadline is above 4,096
  capped_all : Leaves capped_at starts deadlines before 4096 → HasPlan cores J (row_in deadlines)
  capped_all p = (p.0, p.1, record { ends = λ i l. omega (arith, p.2.ends i l) })

  pub short_refused : (Leaves capped_at starts deadlines before 4096 → ⊥) → Shortens starts deadlines pairs 4 0
  unfolding written
  short_refused f =
      let none : HasPlan cores J (row_in deadlines) → ⊥ = λ p. f (p.0, p.1, record { ends = λ i l. omega (arith, p.2.ends i l, judgeable.late i l) }) in
      then_table (even, c.passes) (refused 4 0 ((λ p. none (plan_one cores L p.0 J (written L) p.1 checked_reads p.2)), refl, refl) refl)

  pub short_begins : 0 < length starts → Leaves capped_at starts deadlines before 4096 → Narrowed (Leaves capped_at starts deadlines before) 1 4096
  unfolding capped
  short_begins some p = short_outset cores J (row_in deadlines) 4096 some judgeable.late (capped_all p)

  pub short_ends : (end : ℕ) → Lowest (Leaves capped_at starts deadlines before) end → Shortens starts deadlines pairs 0 end
  unfolding capped
  short_ends end l = short_by end ((shortest_iff cores J (row_in deadlines) end).1 l)

-- ---- numbers, and what an answer of 0 has passed
pub late_numbers : (starts deadlines pairs : List ℕ) → Each (λ n. T (sound_number n)) (late_checks starts deadlines pairs)
late_numbers starts deadlines pairs = (tt, (tt, (tt, entries_numbers starts deadlines pairs)))

pub lone_numbers : (starts deadlines pairs : List ℕ) → Each (λ n. T (sound_number n)) (lone_checks starts deadlines pairs)
lone_numbers starts deadlines pairs = (tt, (tt, entries_numbers starts deadlines pairs))

short_some : (starts deadlines pairs : List ℕ) → Each (λ n. 1 ≤ n) (short_checks starts deadlines pairs)
short_some starts deadlines pairs = (each_map (λ n. T (sound_number n)) (λ n. 1 ≤ n) (lone_checks starts deadlines pairs) sound_some (lone_numbers starts deadlines pairs), omega arith)

pub late_accepted : (starts deadlines pairs : List ℕ) (v : ℤ) → Latens starts deadlines pairs 0 v → Sound starts deadlines pairs × (0 < length starts) × LateAs (list_of starts deadlines pairs) (0, v)
late_accepted starts deadlines pairs v x =
    let y = table_past (late_checks starts deadlines pairs) (λ n v r. r ≡ (n, pos v)) (LateAs (list_of starts deadlines pairs)) (0, v)
    (λ n w m e. omega (arith, ap (λ (p : ℕ × ℤ). p.0) e, among_each (λ n. 1 ≤ n) (late_checks starts deadlines pairs) n (each_map (λ n. T (sound_number n)) (λ n. 1 ≤ n) (late_checks starts deadlines pairs) sound_some (late_numbers starts deadlines pairs)) m)) x in
    let c = y.0 in
    (sound_entries starts deadlines pairs (even_by starts deadlines pairs c.0) (le_by _ 64 c.1.0) c.1.1.1, le_by 1 _ (λ l. c.1.1.0 (omega arith)), y.1)

pub short_accepted : (starts deadlines pairs : List ℕ) (v : ℕ) → Shortens starts deadlines pairs 0 v → ShortAs (list_of starts deadlines pairs) (0, v)
short_accepted starts deadlines pairs v x = (table_past (short_checks starts deadlines pairs) (λ n v r. r ≡ (n, v)) (ShortAs (list_of starts deadlines pairs)) (0, v)
    (λ n w m e. omega (arith, ap (λ (p : ℕ × ℕ). p.0) e, among_each (λ n. 1 ≤ n) (short_checks starts deadlines pairs) n (short_some starts deadlines pairs) m)) x).1

-- ---- one outcome
late_one : (L : Listed) → One (LateAs L)
late_one L r s x y =
    let same = lateness_one cores y.jobs (written L) 4096 x.y y.y (lateness_same cores L x.jobs y.jobs (written L) 4096 x.y x.reads y.reads x.lateness) y.lateness in
    x.tells ∙ ap (λ (n : ℕ). (0, from_origin n)) same ∙ sym y.tells

short_one : (L : Listed) → One (ShortAs L)
short_one L r s x y =
    let same = shortest_one cores y.jobs (written L) x.end y.end (shortest_same cores L x.jobs y.jobs (written L) x.end x.reads y.reads x.shortest) y.shortest in
    x.tells ∙ ap (λ (n : ℕ). (0, n)) same ∙ sym y.tells

-- the promise of lateness has one number and one value
pub latens_only : (starts deadlines pairs : List ℕ) (n m : ℕ) (v w : ℤ) → Latens starts deadlines pairs n v → Latens starts deadlines pairs m w → (n ≡ m) × (v ≡ w)
latens_only starts deadlines pairs n m v w x y =
    let e = table_one (late_checks starts deadlines pairs) (λ n v r. r ≡ (n, pos v)) (LateAs (list_of starts deadlines pairs)) (λ n v r s a b. a ∙ sym b) (late_one (list_of starts deadlines pairs)) (n, v) (m, w) x y in
    (ap (λ (p : ℕ × ℤ). p.0) e, ap (λ (p : ℕ × ℤ). p.1) e)

-- and so one answer
pub lateness_only : (starts deadlines pairs : List ℕ) (a b : Result ℤ Refusal) → Lates a (Latens starts deadlines pairs) → Lates b (Latens starts deadlines pairs) → a ≡ b
lateness_only starts deadlines pairs (Ok v) (Ok w) x y = ap Ok (latens_only starts deadlines pairs 0 0 v w x y).1
lateness_only starts deadlines pairs (Ok v) (Err s) x y = absurd (omega (arith, (latens_only starts deadlines pairs 0 _ v _ x y).0, (number_within s.reason).0))
lateness_only starts deadlines pairs (Err r) (Ok w) x y = absurd (omega (arith, (latens_only starts deadlines pairs _ 0 _ w x y).0, (number_within r.reason).0))
lateness_only starts deadlines pairs (Err r) (Err s) x y =
    let same = latens_only starts deadlines pairs _ _ _ _ x y in
    ap Err (ap₂ refused_by (number_one r.reason s.reason same.0) (ap size same.1))
  where
    size : ℤ → ℕ
    size (pos n) = n
    size (negsuc n) = 0

-- the promise of shortest likewise
pub shortens_only : (starts deadlines pairs : List ℕ) (n v m w : ℕ) → Shortens starts deadlines pairs n v → Shortens starts deadlines pairs m w → (n ≡ m) × (v ≡ w)
shortens_only starts deadlines pairs n v m w x y =
    let e = table_one (short_checks starts deadlines pairs) (λ n v r. r ≡ (n, v)) (ShortAs (list_of starts deadlines pairs)) (λ n v r s a b. a ∙ sym b) (short_one (list_of starts deadlines pairs)) (n, v) (m, w) x y in
    (ap (λ (p : ℕ × ℕ). p.0) e, ap (λ (p : ℕ × ℕ). p.1) e)

pub shortest_only : (starts deadlines pairs : List ℕ) (a b : Result ℕ Refusal) → Says a (Shortens starts deadlines pairs) → Says b (Shortens starts deadlines pairs) → a ≡ b
shortest_only starts deadlines pairs a b = says_only (Shortens starts deadlines pairs) (Shortens starts deadlines pairs) a b (shortens_only starts deadlines pairs)
