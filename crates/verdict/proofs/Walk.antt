-- The records of a file: one list of them, and where a walk over them stands.
-- Assumes nothing.
use mathlib.Core.List.{List, [], ◌∷◌, ◌++◌, append_assoc, append-nil}
use mathlib.Core.Path.{◌≡◌, refl, sym, ap, ap₂, subst, ◌∙◌}
use Prim.Native.Nat.{ℕ, ◌+◌, ◌*◌, ◌≤◌}
use native.Mathlib.Omega.{arith}
use lib.ListN.{length, length-append}
use Rattle.std.specs.Prelude.{Option, Some, None, Result, Ok, Err}
use Rattle.refusal.specs.declared.Refusal.{Refusal}
use Rattle.refusal.specs.Says.{reason_number}
use Rattle.refusal.specs.Table.{Refuses}
use Rattle.refusal.proofs.Table.{refuses_one, refuses_not_clear, table_free}
use Rattle.records.specs.declared.Record.{Record}
use Rattle.records.specs.Record.{length_of}
use Rattle.records.specs.Find.{find_checks, Finds, Stops, Shows}
use Rattle.records.proofs.Standing.{length_six, stands_one, stands_within}
use Rattle.records.proofs.Finding.{stands_clear, finds_record, finds_stop}
use Rattle.verdict.specs.Gathered.{Contains, stops, shows}

-- ---- one list
pub contains_one : {file : List ℕ} {at n v m w : ℕ} {l k : List Record} → Contains file at l n v → Contains file at k m w → (l ≡ k) × (n ≡ m) × (v ≡ w)
contains_one {file} {at} {n} {v} {m} {w} (stops x) (stops y) = let same = refuses_one (find_checks file at) n v m w x y in (refl, same.0, same.1)
contains_one {file} {at} {n} {v} (stops x) (shows r c z k) = absurd (refuses_not_clear (find_checks file at) n v x c)
contains_one {file} {at} {n} {v} {m} {w} (shows r c z k) (stops y) = absurd (refuses_not_clear (find_checks file at) m w y c)
contains_one {file} {at} {n} {v} {m} {w} (shows r c z k) (shows {more = others} q d y l) =
    let same = stands_one file at r q z y in
    let rest = contains_one {m = m} {w = w} k (subst (λ p. Contains file (at + length_of p) others m w) (sym same) l) in
    (ap₂ (λ p u. p ∷ u) same rest.0, rest.1, rest.2)

-- ---- what is found, and what the file has from there on
-- a record: the file has it first
pub contains_first : {file : List ℕ} {at n v : ℕ} {rest : List Record} (r : Record) → Finds file at (Ok (Some r)) → Contains file at rest n v → (more : List Record) × (rest ≡ r ∷ more) × Contains file (at + length_of r) more n v
contains_first {file} {at} {n} {v} r f (stops x) = let s = finds_record file at r f in absurd (refuses_not_clear (find_checks file at) n v x (stands_clear file at r s.0 s.1))
contains_first {file} {at} {n} {v} r f (shows {more = more} q c z k) =
    let same = stands_one file at q r z (finds_record file at r f).1 in
    (more, ap (λ p. p ∷ more) same, subst (λ p. Contains file (at + length_of p) more n v) same k)

-- none: it has none
pub contains_none : {file : List ℕ} {at n v : ℕ} {rest : List Record} (f : Result (Option Record) Refusal) → ((r : Record) → f ≡ Ok (Some r) → ⊥) → Finds file at f → Contains file at rest n v → rest ≡ []
contains_none f none y (stops x) = refl
contains_none {file} {at} f none y (shows q c z k) = absurd (go f none (table_free (find_checks file at) Stops (Shows file at) f c y.outcome))
  where
    go : (f : Result (Option Record) Refusal) → ((r : Record) → f ≡ Ok (Some r) → ⊥) → Shows file at f → ⊥
    go (Ok (Some r)) none x = none r refl
    go (Ok None) none x = x
    go (Err refusal) none x = x

-- what is found takes six bytes that the file has
pub found_within : (file : List ℕ) (at size : ℕ) (r : Record) → Finds file at (Ok (Some r)) → size ≡ length_of r → (size ≡ 6) × (at + size ≤ length file) × (length file ≤ 24576)
found_within file at size r f e = let x = finds_record file at r f in (e ∙ length_six r, omega (arith, stands_within file at r x.1), x.0)

-- ---- where a walk stands: at an offset, behind these records
pub record Behind (file : List ℕ) (at : ℕ) (done : List Record) : Type 0 where
  pub onward : (rest : List Record) (n v : ℕ) → Contains file at rest n v → Contains file 0 (done ++ rest) n v
  pub back : (records : List Record) (n v : ℕ) → Contains file 0 records n v → (rest : List Record) × (records ≡ done ++ rest) × Contains file at rest n v
  pub few : 6 * length done ≤ at

pub behind_none : (file : List ℕ) → Behind file 0 []
behind_none file = record { onward = λ rest n v x. x; back = λ records n v x. (records, refl, x); few = omega arith }

-- a record more
pub behind_more : (file : List ℕ) (at size : ℕ) (done : List Record) (r : Record) → Behind file at done → Finds file at (Ok (Some r)) → size ≡ length_of r → Behind file (at + size) (done ++ (r ∷ []))
behind_more file at size done r b f e =
    let x = finds_record file at r f in
    let within = found_within file at size r f e in
    record {
      onward = λ rest n v k.
          subst (λ l. Contains file 0 l n v) (sym (append_assoc done (r ∷ []) rest)) (b.onward (r ∷ rest) n v (shows r (stands_clear file at r x.0 x.1) x.1 (subst (λ i. Contains file (at + i) rest n v) e k)));
      back = λ records n v k.
          let before = b.back records n v k in
          let first = contains_first r f before.2 in
          (first.0, before.1 ∙ ap (λ l. done ++ l) first.1 ∙ sym (append_assoc done (r ∷ []) first.0), subst (λ i. Contains file (at + i) first.0 n v) (sym e) first.2);
      few = simp length-append (omega (arith, b.few));
    }

-- ---- where it ends
module _ (file : List ℕ) (at : ℕ) (done : List Record) (b : Behind file at done) where
  here : (n v : ℕ) → Refuses (find_checks file at) n v → Contains file 0 done n v
  here n v x = subst (λ l. Contains file 0 l n v) (append-nil done) (b.onward [] n v (stops x))

  pub ends_whole : Finds file at (Ok None) → Contains file 0 done 255 0
  ends_whole f =
      let s = finds_stop file at (Ok None) (λ x. x) f in
      subst (λ m. Contains file 0 done m 0) (sym s.3.0) (subst (Contains file 0 done s.0) (sym s.3.1) (here s.0 s.1 s.2))

  pub ends_stopped : (refusal : Refusal) → Finds file at (Err refusal) → Contains file 0 done (reason_number refusal.reason) refusal.value
  ends_stopped refusal f =
      let s = finds_stop file at (Err refusal) (λ x. x) f in
      subst (λ m. Contains file 0 done m refusal.value) (sym s.3.0) (subst (Contains file 0 done s.0) (sym s.3.1) (here s.0 s.1 s.2))
