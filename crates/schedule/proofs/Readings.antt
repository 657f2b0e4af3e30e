-- Two readings of one list have the same latest times, the same plans, and the same plan made.
-- Assumes nothing.
use mathlib.Core.Path.{◌≡◌, refl, sym, ap, ◌∙◌}
use Prim.Native.Nat.{ℕ, ◌+◌, ◌≤◌, ◌<◌}
use native.Mathlib.Omega.{arith}
use Rattle.schedule.specs.Jobs.{Jobs}
use Rattle.schedule.specs.Plan.{HasPlan, finish}
use Rattle.schedule.specs.Times.{Earliest, Beneath, Latest}
use Rattle.schedule.specs.Make.{slots, bytes}
use Rattle.schedule.specs.Listed.{Listed, Reads, written}
use Rattle.schedule.specs.Book.{Holds}
use Rattle.schedule.proofs.Tests.{same_test}
use Rattle.schedule.proofs.Early.{earliest_one}
use Rattle.schedule.proofs.Exist.{latest_one}
use Rattle.schedule.proofs.Rows.{greatest_least}
use Rattle.schedule.proofs.Greedy.{made_in_time}
use Rattle.schedule.proofs.Seats.{placed_settled}
use Rattle.schedule.proofs.Chains.{reads_closed}
use Rattle.schedule.proofs.Alike.{Alike, placed, waits, SameJobs, slots_alike, bytes_alike, finish_same}
use Rattle.schedule.proofs.Renumber.{earliest_along, latest_along, latest_agrees}

-- they are the same jobs
pub reads_one : (L : Listed) (J K : Jobs) → Reads L J → Reads L K → SameJobs J K
reads_one L J K r s =
    let size : K.size ≡ J.size = s.size ∙ sym r.size in
    record {
      size = size;
      of_held = λ i l. l;
      to_held = λ i l. l;
      of_to = λ i l. refl;
      to_of = λ i l. refl;
      starts = λ i l. s.start i (omega arith) ∙ sym (r.start i l);
      chains = λ a b la lb. same_test (K.before a b) (J.before a b)
          (λ t. (r.before a b la lb).1 ((s.before a b (omega arith) (omega arith)).0 t))
          (λ t. (s.before a b (omega arith) (omega arith)).1 ((r.before a b la lb).0 t));
    }

-- latest times over one earliest row are latest times over any: there is only one
pub latest_any : (m : ℕ) (J : Jobs) (early other due row : ℕ → ℕ) → Earliest J early → Earliest J other → Latest m J early due row → Latest m J other due row
latest_any m J early other due row e o = latest_agrees m J early other due due row row (earliest_one J other early o e) (λ i l. refl) (λ i l. refl)

-- the same latest times
pub holds_one : (m : ℕ) (L : Listed) (J K : Jobs) (times other : ℕ → ℕ) → Holds m L J times → Holds m L K other → (i : ℕ) → i < J.size → times i ≡ other i
holds_one m L J K times other h k =
    let r : SameJobs K J = reads_one L K J k.reads h.reads in
    let e : Earliest J k.early = earliest_along K J (λ i. i) (λ i. i) r k.early k.early (λ i l. refl) k.earliest in
    let a : Latest m J k.early (written L) other =
    latest_along m K J (λ i. i) (λ i. i) r k.early k.early (written L) (written L) other other (λ i l. refl) (λ i l. refl) (λ i l. refl) k.latest in
    latest_one m J h.early (written L) times other h.latest (latest_any m J k.early h.early (written L) other e h.earliest a)

-- the same plans
pub plan_one : (m : ℕ) (L : Listed) (J K : Jobs) (due : ℕ → ℕ) → Reads L J → Reads L K → HasPlan m J due → HasPlan m K due
plan_one m L J K due r s p =
    let x : SameJobs J K = reads_one L J K r s in (
      p.0,
      record {
        room = λ t. rw x.size (p.1.room t);
        begun = λ i l. let h : i < J.size = omega (arith, x.size) in omega (arith, x.starts i h, p.1.begun i h);
        ordered = λ a b la lb t.
            let ha : a < J.size = omega (arith, x.size) in
            let hb : b < J.size = omega (arith, x.size) in
            p.1.ordered a b ha hb (rw (x.chains a b ha hb) at t);
      },
      record { ends = λ i l. p.2.ends i (omega (arith, x.size)) },
    )

-- the same plan made: the first looks at `end` slots, enough for its times, and the second at no fewer
module _ (L : Listed) (J K : Jobs) (times other : ℕ → ℕ) (h : Holds 2 L J times) (k : Holds 2 L K other) (far end far' end' : ℕ) (top : Beneath J times (λ i. end))
    (fits : end ≤ far) (more : end ≤ end') (fits' : end' ≤ far') where
  abbrev slot : ℕ → ℕ
  slot = slots 2 J times far end

  abbrev slot' : ℕ → ℕ
  slot' = slots 2 K other far' end'

  same : SameJobs J K
  same = reads_one L J K h.reads k.reads

  in_time : (i : ℕ) → i < J.size → slot i < end
  in_time = made_in_time 2 J h.early times far end (omega arith) (omega arith) (reads_closed L J h.reads) h.earliest h.latest.consistent fits top

  slot_one : (i : ℕ) → i < J.size → slot i ≡ slot' i
  slot_one i l = go (slots_alike J K same times other (holds_one 2 L J K times other h k) far far' 2 end fits (omega arith) i l)
    where
      go : Alike far far' (slot i) (slots 2 K other far' end i) → slot i ≡ slot' i
      go (waits e e') = absurd (omega (arith, in_time i l))
      go (placed e u u') = e ∙ sym (placed_settled 2 K other far' i end (omega (arith, same.size)) u' end' (omega (arith, in_time i l)))

  pub finish_one : finish J slot ≡ finish K slot'
  finish_one = finish_same J K same slot slot' slot_one

  pub bytes_one : bytes J times far (finish J slot) ≡ bytes K other far' (finish K slot')
  unfolding finish
  bytes_one =
      let l : finish J slot ≤ end = greatest_least J.size (λ i. slot i + 1) end (λ i l. omega (arith, in_time i l)) in
      bytes_alike J K same times other (holds_one 2 L J K times other h k) far far' (finish J slot) (omega arith) (omega arith) ∙ ap (bytes K other far') finish_one
