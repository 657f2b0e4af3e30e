-- A whole list: what its checks leave, one after the other.
-- Assumes nothing.
use mathlib.Core.List.{List}
use mathlib.Core.Logic.{inl, inr, ⊎_elim}
use mathlib.Core.Path.{◌≡◌, refl, sym}
use Prim.Native.Nat.{ℕ, ◌/◌, ◌≤◌, ◌<◌}
use native.Mathlib.Nat.{le_antisymm}
use native.Mathlib.Omega.{arith}
use lib.ListN.{length}
use Rattle.schedule.specs.Jobs.{Jobs}
use Rattle.schedule.specs.Times.{Earliest, Latest}
use Rattle.schedule.specs.Listed.{Listed, Looped, Formed, Reads, written}
use Rattle.schedule.specs.Book.{Holds}
use Rattle.schedule.proofs.Tests.{le_by}
use Rattle.schedule.proofs.Early.{exists_earliest}
use Rattle.schedule.proofs.Chains.{reads_closed, reads_loopless}
use Rattle.schedule.proofs.Renumber.{latest_along}
use Rattle.book.specs.Told.{jobs_in, row_in}
use Rattle.refusal.specs.Table.{check, ◌then◌, Clear, Table, refused, passed}
use Rattle.planner.specs.Requests.{plan_check}
use Rattle.planner.specs.List.{list_of, Uneven, Misshapen, job_at, order_at, entries_checks, rows_checks, Judged, judged, TurnedDown, Fitted, Judges}
use Rattle.planner.specs.Inner.Entries.{Held, Spells, Checked}
use Rattle.planner.specs.Inner.List.{Judgeable, Settles}
use Rattle.schedule.proofs.Readings.{reads_one, plan_one}
use Rattle.schedule.proofs.Onward.{holds_planned}
use Rattle.std.specs.Prelude.{Result, Ok}
use Rattle.refusal.specs.declared.Refusal.{Refusal}
use Rattle.refusal.specs.Says.{Says}
use Rattle.refusal.proofs.Table.{table_then}
use Rattle.refusal.proofs.Says.{says_more}
use Rattle.planner.proofs.Pairs.{pairs_held, pairs_loopless, spells_held}

-- ---- what the checks before the last leave
pub even_by : (starts deadlines pairs : List ℕ) → (Uneven starts deadlines pairs → ⊥) → length starts ≡ length deadlines
even_by starts deadlines pairs f = le_antisymm (le_by _ _ (λ l. f (inl (λ e. omega arith)))) (le_by _ _ (λ l. f (inl (λ e. omega arith))))

pub shape_by : (starts deadlines pairs row : List ℕ) → (Uneven starts deadlines pairs → ⊥) → length starts ≤ length row → Misshapen starts deadlines pairs row → ⊥
shape_by starts deadlines pairs row even l m = ⊎_elim even (λ g. omega arith) m

pub record Sound (starts deadlines pairs : List ℕ) : Type 0 where
  pub even : length starts ≡ length deadlines
  pub few : length starts ≤ 64
  pub jobs : (i : ℕ) → i < length starts → Clear (job_at starts deadlines i)
  pub held : Held (length starts) pairs
  pub free : (p : ℕ) → p < length pairs / 2 → Clear (order_at pairs p)

pub sound_entries : (starts deadlines pairs : List ℕ) → length starts ≡ length deadlines → length starts ≤ 64 → Clear (entries_checks starts deadlines pairs) → Sound starts deadlines pairs
sound_entries starts deadlines pairs even few c = record { even = even; few = few; jobs = c.0; held = record { below = c.1.0 }; free = c.1.1 }

pub sound_counted : (starts deadlines pairs : List ℕ) → (Uneven starts deadlines pairs → ⊥) → Clear (check 1 0 (64 < length starts) then entries_checks starts deadlines pairs) → Sound starts deadlines pairs
sound_counted starts deadlines pairs even c = sound_entries starts deadlines pairs (even_by starts deadlines pairs even) (le_by _ 64 c.0) c.1

module _ (starts deadlines pairs : List ℕ) (s : Sound starts deadlines pairs) where
  pub formed : Formed (list_of starts deadlines pairs)
  formed = record { even = sym s.even; held = pairs_held (length starts) pairs s.held (length pairs / 2) (omega arith) }

  pub loopless : Looped (list_of starts deadlines pairs) → ⊥
  loopless x = pairs_loopless pairs (length pairs / 2) s.free x.0 x.1

module _ (starts deadlines pairs before : List ℕ) (s : Sound starts deadlines pairs) (spells : Spells pairs (length pairs / 2) before) where
  abbrev L : Listed
  L = list_of starts deadlines pairs

  abbrev J : Jobs
  J = jobs_in (length starts) starts before

  free : Looped L → ⊥
  free = loopless starts deadlines pairs s

  pub reads : Reads L J
  reads = record { size = refl; start = λ i l. refl; before = λ a b la lb. spells.chains a b }

  pub sound_judgeable : Judgeable starts deadlines before
  sound_judgeable = record {
    even = s.even;
    few = s.few;
    rows = spells.long;
    early = λ i h. le_by _ 4095 (λ g. (s.jobs i h).0 (inl g));
    late = λ i h. le_by _ 4096 (λ g. (s.jobs i h).0 (inr g));
    closed = reads_closed L J reads;
    loopless = reads_loopless L J reads free;
    held = spells_held (length starts) pairs before (length pairs / 2) s.held (omega arith) spells;
  }

  holds_row : (times row : ℕ → ℕ) → ((i : ℕ) → i < length starts → row i ≡ times i) → ((early : ℕ → ℕ) → Earliest J early → Latest 2 J early (row_in deadlines) times) → Holds 2 L J row
  unfolding written
  holds_row times row same x =
      let e = exists_earliest J (reads_closed L J reads) (reads_loopless L J reads free) in
      record {
        formed = formed starts deadlines pairs s;
        loopless = free;
        reads = reads;
        early = e.0;
        earliest = e.1;
        latest = latest_along 2 J J (λ i. i) (λ i. i) (reads_one L J J reads reads) e.0 e.0 (row_in deadlines) (row_in deadlines) times row
            (λ i l. refl) (λ i l. refl) same (x e.0 e.1);
      }

  -- the last check
  settles_judged : (row : List ℕ) (r : Judged) → Settles starts deadlines before row r → Table (plan_check L) (TurnedDown row) (Fitted L row) r
  unfolding written
  settles_judged row r (refused n v x e) = refused n v ((λ p. x.0 (plan_one 2 L p.0 J (written L) p.1 reads p.2)), x.1, x.2) e
  settles_judged row r (passed free x) =
      let holds = holds_row (row_in x.times) (row_in r.row) x.handed.front x.latest in
      passed (λ no. no (holds_planned 2 (omega arith) (omega arith) L J (row_in r.row) holds)) (record { accepts = x.accepts; same_length = x.handed.same_length; jobs = J; holds = holds; rest = x.handed.rest })

-- and so all of them, where the checks before it find nothing
module _ (starts deadlines pairs before : List ℕ) (even : Uneven starts deadlines pairs → ⊥) (c : Checked starts deadlines pairs before (Ok tt)) where
  sound : Sound starts deadlines pairs
  sound = sound_counted starts deadlines pairs even c.passes

  pub checked_judgeable : Judgeable starts deadlines before
  checked_judgeable = sound_judgeable starts deadlines pairs before sound (c.spells refl)

  pub checked_says : (row after : List ℕ) (r : Result ℕ Refusal) → length starts ≤ length row → Says r (λ n v. Settles starts deadlines before row (judged after n v)) →
      Says r (λ n v. Judges starts deadlines pairs row (judged after n v))
  checked_says row after r l = says_more _ _ r (λ n v y.
      table_then (rows_checks starts deadlines pairs row) (plan_check (list_of starts deadlines pairs)) (TurnedDown row) (Fitted (list_of starts deadlines pairs) row) _
      (shape_by starts deadlines pairs row even l, c.passes) (settles_judged starts deadlines pairs before sound (c.spells refl) row _ y))
