-- The same jobs with the same times make the same plan, however they are spelled, and whatever marks a job not placed: any two marks that are beyond the slots looked at.
-- Assumes nothing.
use mathlib.Core.Bool.{cond}
use mathlib.Core.List.{[], ◌∷◌, ◌++◌}
use mathlib.Core.Logic.{inl, inr}
use mathlib.Core.Path.{◌≡◌, refl, sym, ap, ap₂, ◌∙◌}
use Prim.Native.Nat.{ℕ, zero, suc, ◌+◌, ◌≤◌, ◌<◌}
use native.Mathlib.Omega.{arith}
use lib.Dec.{T, ltb}
use Rattle.schedule.specs.Row.{put, greatest}
use Rattle.schedule.specs.Jobs.{Jobs}
use Rattle.schedule.specs.Plan.{finish}
use Rattle.schedule.specs.Make.{choose, ready, taken, serve, slots, seat, byte, bytes}
use Rattle.schedule.specs.Grow.{Renumbered}
use Rattle.schedule.proofs.Tests.{same_test}
use Rattle.schedule.proofs.Rows.{Put, put_cases}
use Rattle.schedule.proofs.Choice.{ready_read, ready_write}
use Rattle.schedule.proofs.Loop.{Agree, greatest_ext, choose_ext}
use Rattle.schedule.proofs.Renumber.{flip}

-- placed alike, or not placed in either
pub data Alike (far far' x x' : ℕ) : Type 0 where
  placed : x ≡ x' → x < far → x' < far' → Alike far far' x x'
  waits : x ≡ far → x' ≡ far' → Alike far far' x x'

swap : (far far' x x' : ℕ) → Alike far far' x x' → Alike far' far x' x
swap far far' x x' (placed e l l') = placed (sym e) l' l
swap far far' x x' (waits e e') = waits e' e

-- and so is every job
abbrev Each : ℕ → ℕ → ℕ → (ℕ → ℕ) → (ℕ → ℕ) → Type 0
Each n far far' slot slot' = (i : ℕ) → i < n → Alike far far' (slot i) (slot' i)

-- one and the same jobs
abbrev pub SameJobs : Jobs → Jobs → Type 0
SameJobs J K = Renumbered J K (λ i. i) (λ i. i)

module _ (J K : Jobs) (r : SameJobs J K) (far far' t : ℕ) (h : t ≤ far) (h' : t ≤ far') (slot slot' : ℕ → ℕ) (a : Each J.size far far' slot slot') where
  ready_alike : (i : ℕ) → i < J.size → T (ready J far t slot i) → T (ready K far' t slot' i)
  ready_alike i l x =
      let u = ready_read J far t slot i x in
      ready_write K far' t slot' i (record {
        begun = omega (arith, u.begun, r.starts i l);
        free = free u.free (a i l);
        led = λ b lb y. let k : b < J.size = omega (arith, r.size) in led b (u.led b k (rw (r.chains b i k l) at y)) (a b k);
      })
    where
      free : far ≤ slot i → Alike far far' (slot i) (slot' i) → far' ≤ slot' i
      free k (placed e u v) = absurd (omega arith)
      free k (waits e e') = omega arith

      led : (b : ℕ) → slot b < t → Alike far far' (slot b) (slot' b) → slot' b < t
      led b k (placed e u v) = omega arith
      led b k (waits e e') = absurd (omega arith)

module _ (J K : Jobs) (r : SameJobs J K) (row row' : ℕ → ℕ) (rows : Agree J.size row row') (far far' t : ℕ) (h : t ≤ far) (h' : t ≤ far') where
  taken_alike : (slot slot' : ℕ → ℕ) → Each J.size far far' slot slot' → taken J row far t slot ≡ taken K row' far' t slot'
  unfolding taken
  taken_alike slot slot' a =
      choose_ext J.size row row' (ready J far t slot) (ready K far' t slot') J.size rows
      (λ i l. same_test (ready J far t slot i) (ready K far' t slot' i) (ready_alike J K r far far' t h h' slot slot' a i l)
      (ready_alike K J (flip J K (λ i. i) (λ i. i) r) far' far t h' h slot' slot (λ j lj. swap far far' (slot j) (slot' j) (a j (omega (arith, r.size)))) i (omega (arith, r.size))))
      ∙ ap (λ n. choose n row' (ready K far' t slot') n) (sym r.size)

  module _ (k : t < far) (k' : t < far') where
    put_alike : (slot slot' : ℕ → ℕ) (p p' : ℕ) → p ≡ p' → (i : ℕ) → Alike far far' (slot i) (slot' i) → Alike far far' (put slot p t i) (put slot' p' t i)
    put_alike slot slot' p p' e i a = go (put_cases slot p t i) (put_cases slot' p' t i)
      where
        kept : put slot p t i ≡ slot i → put slot' p' t i ≡ slot' i → Alike far far' (slot i) (slot' i) → Alike far far' (put slot p t i) (put slot' p' t i)
        kept x y (placed z l l') = placed (x ∙ z ∙ sym y) (omega arith) (omega arith)
        kept x y (waits z z') = waits (x ∙ z) (y ∙ z')

        go : Put slot p t i → Put slot' p' t i → Alike far far' (put slot p t i) (put slot' p' t i)
        go (inl x) (inl y) = placed (x.1 ∙ sym y.1) (omega (arith, x.1)) (omega (arith, y.1))
        go (inl x) (inr y) = absurd (y.0 (x.0 ∙ e))
        go (inr x) (inl y) = absurd (x.0 (y.0 ∙ sym e))
        go (inr x) (inr y) = kept x.1 y.1 a

    serve_alike : (slot slot' : ℕ → ℕ) → Each J.size far far' slot slot' → (c : ℕ) → Each J.size far far' (serve J row far t slot c) (serve K row' far' t slot' c)
    unfolding serve
    serve_alike slot slot' a zero i l = a i l
    serve_alike slot slot' a (suc c) i l =
        let s : ℕ → ℕ = serve J row far t slot c in
        let s' : ℕ → ℕ = serve K row' far' t slot' c in
        put_alike s s' (taken J row far t s) (taken K row' far' t s') (taken_alike s s' (serve_alike slot slot' a c)) i (serve_alike slot slot' a c i l)

module _ (J K : Jobs) (r : SameJobs J K) (row row' : ℕ → ℕ) (rows : Agree J.size row row') (far far' : ℕ) where
  pub slots_alike : (m t : ℕ) → t ≤ far → t ≤ far' → Each J.size far far' (slots m J row far t) (slots m K row' far' t)
  unfolding slots
  slots_alike m zero h h' i l = waits refl refl
  slots_alike m (suc t) h h' i l =
      serve_alike J K r row row' rows far far' t (omega arith) (omega arith) h h' (slots m J row far t) (slots m K row' far' t) (slots_alike m t (omega arith) (omega arith)) m i l

  -- the same job in each seat
  pub seat_alike : (m t c : ℕ) → t < far → t < far' → seat m J row far t c ≡ seat m K row' far' t c
  unfolding seat
  seat_alike m t c h h' =
      taken_alike J K r row row' rows far far' t (omega arith) (omega arith) (serve J row far t (slots m J row far t) c) (serve K row' far' t (slots m K row' far' t) c)
      (serve_alike J K r row row' rows far far' t (omega arith) (omega arith) h h' (slots m J row far t) (slots m K row' far' t) (slots_alike m t (omega arith) (omega arith)) c)

  -- the same bytes
  pub bytes_alike : (t : ℕ) → t ≤ far → t ≤ far' → bytes J row far t ≡ bytes K row' far' t
  unfolding bytes byte
  bytes_alike zero h h' = refl
  bytes_alike (suc t) h h' =
      ap₂ ◌++◌ (bytes_alike t (omega arith) (omega arith)) (ap₂ (λ x y. x ∷ y ∷ []) (byte_same 0) (byte_same 1))
    where
      byte_same : (c : ℕ) → byte J (seat 2 J row far t c) ≡ byte K (seat 2 K row' far' t c)
      byte_same c = ap₂ (λ n x. cond (ltb x n) x 255) (sym r.size) (seat_alike 2 t c h h')

-- the same finishing time
pub finish_same : (J K : Jobs) → SameJobs J K → (slot slot' : ℕ → ℕ) → Agree J.size slot slot' → finish J slot ≡ finish K slot'
unfolding finish
finish_same J K r slot slot' e =
    greatest_ext J.size (λ i. slot i + 1) (λ i. slot' i + 1) (λ i l. ap (λ x. x + 1) (e i l)) ∙ ap (λ n. greatest n (λ i. slot' i + 1)) (sym r.size)
