-- Small lists settled by computing: a certificate names the earliest times and the triples at which to lower.
-- Assumes nothing.
use mathlib.Core.Bool.{Bool, true, not, ◌&&◌, ◌||◌}
use mathlib.Core.List.{List, [], ◌∷◌}
use mathlib.Core.Logic.{⊎_elim}
use mathlib.Core.Path.{◌≡◌, refl}
use Prim.Native.Nat.{ℕ, ◌+◌, ◌-◌, ◌*◌, ◌≤◌, ◌<◌}
use native.Mathlib.Omega.{arith}
use lib.Dec.{T, eqb, leb, ltb}
use lib.ListN.{length, get_or}
use Rattle.schedule.specs.Row.{put, all}
use Rattle.schedule.specs.Jobs.{Jobs}
use Rattle.schedule.specs.Plan.{HasPlan}
use Rattle.schedule.specs.Times.{Earliest, N, up, Consistent, Breach, left}
use Rattle.schedule.specs.Listed.{Listed, ordered, Chain, link, join, Looped, Formed, Reads, written}
use Rattle.schedule.specs.Book.{Holds}
use Rattle.schedule.specs.Theory.Bound.{Bound}
use Rattle.schedule.proofs.Tests.{Says, says_and, says_le, says_lt, says_not, says_then, itself, says_eq, says_or}
use Rattle.schedule.proofs.Early.{raise, raise_least}
use Rattle.schedule.proofs.Exist.{bound_start, bound_lower, bound_latest, bound_shut}
use Rattle.schedule.proofs.Few.{Few, own, other, consistent_few}
use Rattle.schedule.proofs.Choice.{says_all}
use Rattle.schedule.proofs.Renumber.{latest_agrees}

module _ (m : ℕ) (J : Jobs) (early : ℕ → ℕ) where
  -- ---- earliest times: raised, and nowhere above the starts raised n times
  unfoldable pub earlyb : ℕ → Bool
  unfolding all raise
  earlyb n =
      all J.size (λ i. leb (J.start i) (early i) && leb (early i) (raise J n i))
      && all J.size (λ b. all J.size (λ a. not (J.before a b) || leb (early a + 1) (early b)))

  pub earlyb_sound : (n : ℕ) → T (earlyb n) → Earliest J early
  unfolding earlyb
  earlyb_sound n t =
      let near = says_all J.size (λ i. says_and (says_le (J.start i) (early i)) (says_le (early i) (raise J n i))) in
      let pairs = says_all J.size (λ b. says_all J.size (λ a. says_then (itself (J.before a b)) (says_le (early a + 1) (early b)))) in
      let x = (says_and near pairs).read t in
      record {
        raised = record { above = λ i l. (x.0 i l).0; apart = λ a b la lb u. x.1 b lb a la u };
        least = λ row r i l. omega (arith, (x.0 i l).1, raise_least J row r n i l);
      }

  -- ---- a breach
  module _ (row : ℕ → ℕ) (i s d : ℕ) where
    unfoldable pub breachb : Bool
    unfolding N up
    breachb =
        (ltb i J.size && leb (early i) s) && (leb s (row i) && leb (row i) d)
        && (leb (m * (d - s)) (N J early row i s d) && ltb d (row i + up m (N J early row i s d)))

    pub says_breach : Says breachb (Breach m J early row i s d)
    unfolding breachb
    says_breach =
        let x = says_and (says_and (says_and (says_lt i J.size) (says_le (early i) s)) (says_and (says_le s (row i)) (says_le (row i) d)))
        (says_and (says_le (m * (d - s)) (N J early row i s d)) (says_lt d (row i + up m (N J early row i s d)))) in
        record {
          read = λ t.
              let y = x.read t in
              record { within = record { job = y.0.0.0; from = y.0.0.1; till = y.0.1.0; by = y.0.1.1 }; full = y.1.0; over = y.1.1 };
          write = λ b. x.write (((b.within.job, b.within.from), (b.within.till, b.within.by)), (b.full, b.over));
        }

  -- ---- the triples of a certificate, one after the other
  unfoldable pub lowered : List (ℕ × ℕ × ℕ) → (ℕ → ℕ) → ℕ → ℕ
  unfolding put left
  lowered [] row = row
  lowered (x ∷ steps) row = lowered steps (put row x.0 (left m J early row x.0 x.1 x.2))

  unfoldable pub stepsb : List (ℕ × ℕ × ℕ) → (ℕ → ℕ) → Bool
  unfolding put left breachb
  stepsb [] row = true
  stepsb (x ∷ steps) row =
      breachb row x.0 x.1 x.2 && not (eqb (row x.0) 0) && stepsb steps (put row x.0 (left m J early row x.0 x.1 x.2))

  module _ (e : Earliest J early) (pos : 1 ≤ m) (due : ℕ → ℕ) where
    pub stepsb_sound : (steps : List (ℕ × ℕ × ℕ)) (row : ℕ → ℕ) → T (stepsb steps row) → Bound m J early due row → Bound m J early due (lowered steps row)
    unfolding lowered stepsb
    stepsb_sound [] row t b = b
    stepsb_sound (x ∷ steps) row t b =
        let i : ℕ = x.0 in
        let next : ℕ → ℕ = put row i (left m J early row i x.1 x.2) in
        let y = (says_and (says_and (says_breach row i x.1 x.2) (says_not (says_eq (row i) 0))) (itself (stepsb steps next))).read t in
        stepsb_sound steps next y.1 (bound_lower m J early due e pos row b i x.1 x.2 y.0.0 y.0.1)

  -- ---- windows open, and no breach among the few
  unfoldable pub fewb : (ℕ → ℕ) → Bool
  unfolding all breachb
  fewb row =
      all J.size (λ i. leb (early i + 1) (row i)
      && all J.size (λ k. not (breachb row i (row i) (row k)) && all J.size (λ j. not (breachb row i (early j) (row k)))))

  pub fewb_sound : 1 ≤ m → (row : ℕ → ℕ) → T (fewb row) → Consistent m J early row
  unfolding fewb
  fewb_sound pos row t = consistent_few m pos J early row (λ i l. (x i l).0) none
    where
      x : (i : ℕ) → i < J.size → (early i + 1 ≤ row i) × ((k : ℕ) → k < J.size →
          (Breach m J early row i (row i) (row k) → ⊥) × ((j : ℕ) → j < J.size → Breach m J early row i (early j) (row k) → ⊥))
      x = (says_all J.size (λ i. says_and (says_le (early i + 1) (row i)) (says_all J.size (λ k.
          says_and (says_not (says_breach row i (row i) (row k))) (says_all J.size (λ j. says_not (says_breach row i (early j) (row k)))))))).read t

      none : (i : ℕ) → i < J.size → Few m J early row i → ⊥
      none i l (own k lk b) = ((x i l).1 k lk).0 b
      none i l (other j k lj lk b) = ((x i l).1 k lk).1 j lj b

-- ---- lists whose orders are themselves closed
unfoldable pub heldb : ℕ → List (ℕ × ℕ) → Bool
heldb n [] = true
heldb n (p ∷ o) = ltb p.0 n && ltb p.1 n && heldb n o

heldb_sound : (n : ℕ) (o : List (ℕ × ℕ)) → T (heldb n o) → (a b : ℕ) → T (ordered o a b) → (a < n) × (b < n)
unfolding heldb ordered
heldb_sound n [] t a b u = absurd u
heldb_sound n (p ∷ o) t a b u =
    let x = (says_and (says_and (says_lt p.0 n) (says_lt p.1 n)) (itself (heldb n o))).read t in
    ⊎_elim (λ v. (omega (arith, v.0, x.0.0), omega (arith, v.1, x.0.1))) (λ v. heldb_sound n o x.1 a b v)
    ((says_or (says_and (says_eq p.0 a) (says_eq p.1 b)) (itself (ordered o a b))).read u)

module _ (o : List (ℕ × ℕ)) where
  unfoldable pub closedb : ℕ → Bool
  unfolding all ordered
  closedb n = all n (λ a. all n (λ b. all n (λ c. not (ordered o a b && ordered o b c) || ordered o a c)))

  module _ (n : ℕ) (held : (a b : ℕ) → T (ordered o a b) → (a < n) × (b < n)) (t : T (closedb n)) where
    pub flat_chain : {a b : ℕ} → Chain o a b → T (ordered o a b)
    unfolding closedb
    flat_chain (link t) = t
    flat_chain (join {a = a} {b = b} {c = c} x y) =
        let u = flat_chain x in
        let v = flat_chain y in
        (says_all n (λ a. says_all n (λ b. says_all n (λ c. says_then (says_and (itself (ordered o a b)) (itself (ordered o b c))) (itself (ordered o a c)))))
        ).read t a (held a b u).0 b (held a b u).1 c (held b c v).1 (u, v)

unfoldable pub formb : Listed → Bool
unfolding heldb closedb
formb L = eqb (length L.deadlines) (length L.starts) && heldb (length L.starts) L.orders && closedb L.orders (length L.starts)

-- ---- a certificate
pub record Certificate : Type 0 where
  pub list : Listed
  pub depth : ℕ
  pub early : List ℕ
  pub steps : List (ℕ × ℕ × ℕ)

-- a sound list with no plan (01, Numbers of refusal: 4)
pub record Refused (L : Listed) : Type 0 where
  pub formed : Formed L
  pub loopless : Looped L → ⊥
  pub jobs : Jobs
  pub reads : Reads L jobs
  pub none : HasPlan 2 jobs (written L) → ⊥

-- a row held in a list of numbers
abbrev pub entry : List ℕ → ℕ → ℕ
entry l i = get_or l i 0

module _ (x : Certificate) where
  abbrev n : ℕ
  n = length x.list.starts

  abbrev o : List (ℕ × ℕ)
  o = x.list.orders

  abbrev J : Jobs
  J = record { size = n; start = entry x.list.starts; before = ordered o }

  abbrev early : ℕ → ℕ
  early = entry x.early

  abbrev due : ℕ → ℕ
  due = written x.list

  -- the list is well formed, and the certificate's times and triples are good
  unfoldable pub soundb : Bool
  unfolding formb earlyb stepsb written
  soundb = formb x.list && earlyb 2 J early x.depth && stepsb 2 J early x.steps due

  -- where its triples lead
  unfoldable pub led : ℕ → ℕ
  unfolding lowered written
  led = lowered 2 J early x.steps due

  -- it leads to these latest times
  unfoldable pub acceptb : List ℕ → Bool
  unfolding soundb fewb led all
  acceptb times = soundb && fewb 2 J early led && all n (λ i. eqb (entry times i) (led i))

  -- it shuts the window of job i
  unfoldable pub refuseb : ℕ → Bool
  unfolding soundb led
  refuseb i = soundb && ltb i n && ltb (led i) (early i + 1)

  module _ (t : T soundb) where
    parts : (T (formb x.list) × T (earlyb 2 J early x.depth)) × T (stepsb 2 J early x.steps due)
    unfolding soundb
    parts = (says_and (says_and (itself (formb x.list)) (itself (earlyb 2 J early x.depth))) (itself (stepsb 2 J early x.steps due))).read t

    earliest : Earliest J early
    earliest = earlyb_sound 2 J early x.depth parts.0.1

    bound : Bound 2 J early due led
    unfolding led
    bound = stepsb_sound 2 J early earliest (omega arith) due x.steps due parts.1 (bound_start 2 J early due earliest (omega arith))

    form : ((length x.list.deadlines ≡ n) × T (heldb n o)) × T (closedb o n)
    unfolding formb
    form = (says_and (says_and (says_eq (length x.list.deadlines) n) (itself (heldb n o))) (itself (closedb o n))).read parts.0.0

    formed : Formed x.list
    formed = record { even = form.0.0; held = heldb_sound n o form.0.1 }

    chain : {a b : ℕ} → Chain o a b → T (ordered o a b)
    chain c = flat_chain o n formed.held form.1 c

    reads : Reads x.list J
    reads = record { size = refl; start = λ i l. refl; before = λ a b la lb. ((λ u. link u), (λ c. chain c)) }

    loopless : Looped x.list → ⊥
    loopless y =
        let u = chain y.1 in
        let l = (formed.held y.0 y.0 u).0 in
        omega (arith, earliest.raised.apart y.0 y.0 l l u)

  -- what is accepted is held by a book
  pub accept_sound : (times : List ℕ) → T (acceptb times) → Holds 2 x.list J (entry times)
  unfolding acceptb
  accept_sound times t =
      let v = (says_and (says_and (itself soundb) (itself (fewb 2 J early led))) (says_all n (λ i. says_eq (entry times i) (led i)))).read t in
      let u = v.0.0 in
      record {
        formed = formed u;
        loopless = loopless u;
        reads = reads u;
        early = early;
        earliest = earliest u;
        latest = latest_agrees 2 J early early due due led (entry times) (λ i l. refl) (λ i l. refl) v.1
            (bound_latest 2 J early due (earliest u) (omega arith) led (bound u) (fewb_sound 2 J early (omega arith) led v.0.1));
      }

  -- what is refused has no plan
  pub refuse_sound : (i : ℕ) → T (refuseb i) → Refused x.list
  unfolding refuseb
  refuse_sound i t =
      let v = (says_and (says_and (itself soundb) (says_lt i n)) (says_lt (led i) (early i + 1))).read t in
      let u = v.0.0 in
      record {
        formed = formed u;
        loopless = loopless u;
        jobs = J;
        reads = reads u;
        none = (bound_shut 2 J early due (earliest u) (omega arith) led (bound u) i v.0.1 v.1).no_plan;
      }
