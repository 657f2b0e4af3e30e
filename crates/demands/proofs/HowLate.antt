-- How late, and how short: what the two calls tell is least, in whole slots and by any clock.
-- Assumes nothing.
use mathlib.Core.List.{List}
use mathlib.Core.Path.{◌≡◌, sym, ap, subst, ◌∙◌}
use Prim.Native.Nat.{ℕ}
use native.Mathlib.Omega.{arith}
use lib.Dec.{T}
use lib.IntN.{ℤ, pos}
use lib.ListN.{length}
use Rattle.schedule.specs.Jobs.{Jobs}
use Rattle.schedule.specs.Listed.{Listed, Reads, written}
use Rattle.schedule.specs.Shortest.{Shortest}
use Rattle.schedule.proofs.Late.{lateness_same, lateness_moved, lateness_clocked, on_time}
use Rattle.schedule.proofs.Shortest.{shortest_same, shortest_one, shortest_empty, shortest_clocked}
use Rattle.refusal.specs.Table.{Clear, refused, passed}
use Rattle.refusal.proofs.Table.{each_map, refuses_each, table_free, table_last}
use Rattle.book.specs.Told.{cores}
use Rattle.planner.specs.List.{list_of}
use Rattle.planner.specs.Late.{late_checks, from_origin, LateAs, Latens, lone_checks, short_checks, ShortAs, Shortens}
use Rattle.planner.specs.Requests.{plan_check}
use Rattle.planner.proofs.Outcome.{sound_number, sound_other}
use Rattle.planner.proofs.HowLate.{late_numbers, lone_numbers, late_accepted, late_ranged, short_accepted}
use Rattle.demands.specs.Demands.{NoSchedule}
use Rattle.demands.specs.HowLate.{Late, Short, HowLate}
use Rattle.demands.proofs.Second.{no_schedule}

late : (starts deadlines pairs : List ℕ) (value : ℤ) → Latens starts deadlines pairs 0 value → (J : Jobs) → Reads (list_of starts deadlines pairs) J →
    (y : ℕ) × (value ≡ from_origin y) × Late (list_of starts deadlines pairs) J y
late starts deadlines pairs value x J r =
    let L : Listed = list_of starts deadlines pairs in
    let a = late_accepted starts deadlines pairs value x in
    let l = a.2 in
    let least = lateness_same cores L l.jobs J (written L) 4096 l.y l.reads r l.lateness in (
      l.y,
      ap (λ (p : ℕ × ℤ). p.1) l.tells,
      record {
        least = least;
        moves = lateness_moved cores J (written L) 4096 l.y least;
        ranged = late_ranged starts deadlines pairs a.0 J r a.1 l.y least;
        clocks = lateness_clocked cores J (written L) 4096 l.y least;
        on_time = on_time cores J (written L) 4096 l.y least;
      },
    )

never_4 : (starts deadlines pairs : List ℕ) (value : ℤ) → Latens starts deadlines pairs 4 value → ⊥
never_4 starts deadlines pairs value (refused n v x e) =
    refuses_each (λ n. 4 ≡ n → ⊥) (late_checks starts deadlines pairs) n v (each_map (λ n. T (sound_number n)) (λ n. 4 ≡ n → ⊥) (late_checks starts deadlines pairs) sound_other (late_numbers starts deadlines pairs)) x (ap (λ (p : ℕ × ℤ). p.0) e)
never_4 starts deadlines pairs value (passed x l) = absurd (omega (arith, ap (λ (p : ℕ × ℤ). p.0) l.tells))

told : (starts deadlines pairs : List ℕ) (number : ℕ) (value : ℤ) → Latens starts deadlines pairs number value → Clear (late_checks starts deadlines pairs) → number ≡ 0
told starts deadlines pairs number value x free = ap (λ (p : ℕ × ℤ). p.0) (table_free (late_checks starts deadlines pairs) (λ n v r. r ≡ (n, pos v)) (LateAs (list_of starts deadlines pairs)) (number, value) free x).tells

short : (starts deadlines pairs : List ℕ) (end : ℕ) → Shortens starts deadlines pairs 0 end → (J : Jobs) → Reads (list_of starts deadlines pairs) J → Short (list_of starts deadlines pairs) J end
short starts deadlines pairs end x J r =
    let L : Listed = list_of starts deadlines pairs in
    let s = short_accepted starts deadlines pairs end x in
    let same : s.end ≡ end = sym (ap (λ (p : ℕ × ℕ). p.1) s.tells) in
    let least = subst (Shortest cores J (written L)) same (shortest_same cores L s.jobs J (written L) s.end s.reads r s.shortest) in
    record { least = least; clocks = shortest_clocked cores J (written L) end least }

nothing : (starts deadlines pairs : List ℕ) (end : ℕ) → length starts ≡ 0 → Shortens starts deadlines pairs 0 end → end ≡ 0
nothing starts deadlines pairs end z x =
    let L : Listed = list_of starts deadlines pairs in
    let s = short_accepted starts deadlines pairs end x in
    ap (λ (p : ℕ × ℕ). p.1) s.tells ∙ shortest_one cores s.jobs (written L) s.end 0 s.shortest (shortest_empty cores s.jobs (written L) (s.reads.size ∙ z))

told_short : (starts deadlines pairs : List ℕ) (number value : ℕ) → Shortens starts deadlines pairs number value → Clear (short_checks starts deadlines pairs) → number ≡ 0
told_short starts deadlines pairs number value x free = ap (λ (p : ℕ × ℕ). p.0) (table_free (short_checks starts deadlines pairs) (λ n v r. r ≡ (n, v)) (ShortAs (list_of starts deadlines pairs)) (number, value) free x).tells

none : (starts deadlines pairs : List ℕ) (value : ℕ) → Shortens starts deadlines pairs 4 value → NoSchedule (list_of starts deadlines pairs)
none starts deadlines pairs value x =
    let L : Listed = list_of starts deadlines pairs in
    let f = table_last (lone_checks starts deadlines pairs) (plan_check L) (λ n v r. r ≡ (n, v)) (ShortAs L) (4, value) 4
    (each_map (λ n. T (sound_number n)) (λ n. 4 ≡ n → ⊥) (lone_checks starts deadlines pairs) sound_other (lone_numbers starts deadlines pairs))
    (λ m w e. sym (ap (λ (p : ℕ × ℕ). p.0) e)) (λ s. omega (arith, ap (λ (p : ℕ × ℕ). p.0) s.tells)) x in
    no_schedule L f.2.0

pub how_late : HowLate
how_late = record { late = late; never_4 = never_4; told = told; short = short; nothing = nothing; told_short = told_short; none = none }
