-- A walk over a job file: its lines, one outcome, how long they are.
-- Assumes nothing.
use mathlib.Core.Bool.{Bool, true, false, cond}
use mathlib.Core.List.{List, [], ◌∷◌, ◌++◌, append_assoc, append-nil}
use mathlib.Core.Path.{◌≡◌, refl, sym, ap, ap₂, subst, ◌∙◌}
use Prim.Native.Nat.{ℕ, ◌+◌, ◌*◌, ◌≤◌, ◌<◌}
use native.Mathlib.Omega.{arith}
use lib.Dec.{eqb}
use lib.ListN.{length, get_or, length-append}
use lib.Seq.{sets, length-sets}
use borrow.Author.Tests.{ne_eqb}
use Rattle.std.specs.Prelude.{Some, None, Result, Ok, Err}
use Rattle.refusal.specs.declared.Refusal.{Refusal}
use Rattle.refusal.specs.Table.{Refuses}
use Rattle.refusal.proofs.Says.{says_only}
use Rattle.refusal.proofs.Table.{refuses_one, refuses_not_clear, refuses_each}
use Rattle.records.specs.declared.Record.{Record}
use Rattle.records.specs.declared.Record.TheVariants.{Job, Order, Deadline}
use Rattle.records.specs.Record.{length_of}
use Rattle.records.specs.Find.{find_checks, Finds}
use Rattle.records.proofs.Standing.{first_field, second_field, length_six, stands_one, stands_within, stands_fields}
use Rattle.records.proofs.Finding.{not_end, stands_clear, finds_record, finds_stop}
use Rattle.text.specs.declared.Page.{Page}
use Rattle.text.specs.Put.{Adds}
use Rattle.text.proofs.Decimal.{decimal_short}
use Rattle.text.proofs.Putting.{puts_stored, adds_none, adds_then}
use Rattle.keying.specs.Lines.{line_of, Printed, stops, shows, Lines}
use Rattle.keying.specs.Inner.Walk.{Calls, lines_of, Ended, Reads}
use Rattle.keying.proofs.Walk.{calls_more}

-- ---- one outcome
pub printed_one : {file : List ℕ} {at n v m w : ℕ} {s t : List ℕ} → Printed file at s n v → Printed file at t m w → (s ≡ t) × (n ≡ m) × (v ≡ w)
printed_one {file} {at} {n} {v} {m} {w} (stops x) (stops y) = let same = refuses_one (find_checks file at) n v m w x y in (refl, same.0, same.1)
printed_one {file} {at} {n} {v} (stops x) (shows r c z k) = absurd (refuses_not_clear (find_checks file at) n v x c)
printed_one {file} {at} {n} {v} {m} {w} (shows r c z k) (stops y) = absurd (refuses_not_clear (find_checks file at) m w y c)
printed_one {file} {at} {n} {v} {m} {w} (shows r c z k) (shows {text = u} q d y l) =
    let same = stands_one file at r q z y in
    let more = printed_one {m = m} {w = w} k (subst (λ p. Printed file (at + length_of p) u m w) (sym same) l) in
    (ap₂ (λ p u. line_of p ++ u) same more.0, more.1, more.2)

-- an end and a stop have a number
printed_number : {file : List ℕ} {at n v : ℕ} {t : List ℕ} → Printed file at t n v → 1 ≤ n
printed_number {file} {at} {n} {v} (stops x) = refuses_each (λ m. 1 ≤ m) (find_checks file at) n v (omega arith, (omega arith, (omega arith, omega arith))) x
printed_number (shows r c z k) = printed_number k

pub lines_only : (file out : List ℕ) (r s : Result ℕ Refusal) (a b : List ℕ) → Lines file out r a → Lines file out s b → (r ≡ s) × (a ≡ b)
lines_only file out r s a b p q =
    let same = printed_one p.printed q.printed in (
      says_only _ _ r s (λ n v m w x y. (
        x.0 ∙ ap (λ k. cond (eqb k 255) 0 k) same.1 ∙ sym y.0,
        x.1 ∙ ap₂ (λ k t. cond (eqb k 255) (length t) p.value) same.1 same.0 ∙ ap (λ u. cond (eqb q.number 255) (length q.text) u) same.2 ∙ sym y.1,
      )) p.answer q.answer,
      p.bytes ∙ ap₂ (λ k t. cond (eqb k 255) (sets out 0 t) out) same.1 same.0 ∙ sym q.bytes,
    )

-- ---- how long
line_short : (r : Record) → first_field r < 65536 → second_field r < 65536 → length (line_of r) ≤ 15
line_short (Job a b) h i = simp length-append (omega (arith, decimal_short 4 a (omega arith), decimal_short 4 b (omega arith)))
line_short (Order a b) h i = simp length-append (omega (arith, decimal_short 4 a (omega arith), decimal_short 4 b (omega arith)))
line_short (Deadline a b) h i = simp length-append (omega (arith, decimal_short 4 a (omega arith), decimal_short 4 b (omega arith)))

-- ---- where the walk stands: at an offset, with the records told so far
lines_more : (told : List Record) (r : Record) (rest : List ℕ) → lines_of (told ++ (r ∷ [])) ++ rest ≡ lines_of told ++ (line_of r ++ rest)
lines_more [] r rest = ap (λ l. l ++ rest) (append-nil (line_of r))
lines_more (q ∷ told) r rest = append_assoc (line_of q) (lines_of (told ++ (r ∷ []))) rest ∙ ap (λ l. line_of q ++ l) (lines_more told r rest) ∙ sym (append_assoc (line_of q) (lines_of told) (line_of r ++ rest))

lines_length : (told : List Record) (r : Record) → length (lines_of (told ++ (r ∷ []))) ≡ length (lines_of told) + length (line_of r)
lines_length told r = ap length (sym (append-nil (lines_of (told ++ (r ∷ [])))) ∙ lines_more told r [] ∙ ap (λ l. lines_of told ++ l) (append-nil (line_of r))) ∙ length-append (lines_of told) (line_of r)

pub record Passed {F : Type 0} (file : List ℕ) (call : F → Record → F → Type 0) (f : F) (at : ℕ) (g : F) : Type 0 where
  pub told : List Record
  pub onward : (rest : List ℕ) (n v : ℕ) → Printed file at rest n v → Printed file 0 (lines_of told ++ rest) n v
  pub inside : at ≤ length file
  pub short : 2 * length (lines_of told) ≤ 5 * at
  pub within : length (lines_of told) ≤ 61440
  pub calls : Calls (λ f at r g. call f r g) f 0 told g

pub passed_start : {F : Type 0} {call : F → Record → F → Type 0} (file : List ℕ) (f : F) → Passed file call f 0 f
passed_start file f = record { told = []; onward = λ rest n v t. t; inside = omega arith; short = omega arith; within = omega arith; calls = refl }

-- what is found takes six bytes that the file has
pub found_within : (file : List ℕ) (at size : ℕ) (r : Record) → Finds file at (Ok (Some r)) → size ≡ length_of r → (size ≡ 6) × (at + size ≤ length file)
found_within file at size r f e = (e ∙ length_six r, omega (arith, stands_within file at r (finds_record file at r f).1))

module _ {F : Type 0} {file : List ℕ} {call : F → Record → F → Type 0} {f g : F} {at : ℕ} (p : Passed file call f at g) where
  -- a record more
  pub passed_more : ((i : ℕ) → get_or file i 0 < 256) → (r : Record) (h : F) → Finds file at (Ok (Some r)) → call g r h → Passed file call f (at + length_of r) h
  passed_more small r h found c =
      let x = finds_record file at r found in
      let fields = stands_fields file at r small x.1 in
      let line = line_short r fields.0 fields.1 in
      let within = stands_within file at r x.1 in
      record {
        told = p.told ++ (r ∷ []);
        onward = λ rest n v t. subst (λ l. Printed file 0 l n v) (sym (lines_more p.told r rest)) (p.onward (line_of r ++ rest) n v (shows r (stands_clear file at r x.0 x.1) x.1 t));
        inside = within;
        short = omega (arith, p.short, length_six r, line, lines_length p.told r);
        within = omega (arith, p.short, length_six r, line, lines_length p.told r, x.0, within);
        calls = calls_more (λ f at r g. call f r g) p.told f 0 g h r p.calls c;
      }

  -- what the walk tells at its end
  reads : (r : Result (Unit {0}) Refusal) (n v : ℕ) → Refuses (find_checks file at) n v → Ended r n v → Reads file call f r g
  reads r n v x e = record {
    told = p.told;
    number = n;
    value = v;
    printed = subst (λ l. Printed file 0 l n v) (append-nil (lines_of p.told)) (p.onward [] n v (stops x));
    within = p.within;
    answer = e;
    calls = p.calls;
  }

  pub reads_end : Finds file at (Ok None) → Reads file call f (Ok tt) g
  reads_end found = let s = finds_stop file at (Ok None) (λ x. x) found in reads (Ok tt) s.0 s.1 s.2 (sym s.3.0, sym s.3.1)

  pub reads_stop : (refusal : Refusal) → Finds file at (Err refusal) → Reads file call f (Err refusal) g
  reads_stop refusal found = let s = finds_stop file at (Err refusal) (λ x. x) found in reads (Err refusal) s.0 s.1 s.2 (sym s.3.0, sym s.3.1)

-- ---- from the two walks
-- a stop leaves the bytes lent
pub lines_stop : {F : Type 0} {file : List ℕ} {call : F → Record → F → Type 0} {f g : F} (old : List ℕ) → 61440 ≤ length old → (refusal : Refusal) → Reads file call f (Err refusal) g → Lines file old (Err refusal) old
lines_stop old room refusal w =
    let other = ne_eqb w.number 255 (λ e. not_end refusal (sym w.answer.0 ∙ e)) in
    record { text = lines_of w.told; number = w.number; value = w.value; printed = w.printed; within = omega (arith, w.within); answer = (simp other (sym w.answer.0), simp other (sym w.answer.1)); bytes = simp other }

-- where each call puts its line on a page, behind the same reference, the walk puts all lines there
calls_adds : {F : Type 0} (call : F → Record → F → Type 0) (page : F → Page) (name : F → ℕ) → ((f : F) (r : Record) (g : F) → call f r g → Adds (line_of r) (page f) (page g) × (name g ≡ name f))
    → (told : List Record) (f : F) (at : ℕ) (g : F) → Calls (λ f at r g. call f r g) f at told g → Adds (lines_of told) (page f) (page g) × (name g ≡ name f)
calls_adds call page name adds [] f at g e = rw e (adds_none (page g), refl)
calls_adds call page name adds (r ∷ told) f at g c =
    let one = adds f r c.0 c.1 in
    let rest = calls_adds call page name adds told c.0 (at + length_of r) g c.2 in
    (adds_then one.0 rest.0, rest.1 ∙ one.1)

pub reads_adds : {F : Type 0} {file : List ℕ} {call : F → Record → F → Type 0} {f g : F} {r : Result (Unit {0}) Refusal} (w : Reads file call f r g) (page : F → Page) (name : F → ℕ)
    → ((f : F) (r : Record) (g : F) → call f r g → Adds (line_of r) (page f) (page g) × (name g ≡ name f)) → Adds (lines_of w.told) (page f) (page g) × (name g ≡ name f)
reads_adds {call = call} {f = f} {g = g} w page name adds = calls_adds call page name adds w.told f 0 g w.calls

module _ {F G : Type 0} {file : List ℕ} {check : F → Record → F → Type 0} {call : G → Record → G → Type 0} {f f' : F} {g g' : G} (whole : Reads file check f (Ok tt) f') where
  -- what the first walk read to its end, the second does
  pub reads_whole : (refusal : Refusal) → Reads file call g (Err refusal) g' → ⊥
  reads_whole refusal w = not_end refusal (sym w.answer.0 ∙ sym (printed_one whole.printed w.printed).1 ∙ whole.answer.0)

-- the lines on a page that begins with the bytes lent
pub lines_end : {file : List ℕ} {from to : Page} {n v : ℕ} (text : List ℕ) → Printed file 0 text n v → n ≡ 255 → length text ≤ 61440 → 61440 ≤ length from.out.now → from.at ≡ 0
    → Adds text from to → Lines file from.out.now (Ok to.at) to.out.now
lines_end {from = from} {n = n} {v = v} text printed last within room start adds =
    let end : eqb n 255 ≡ true = rw last refl in
    let put = puts_stored text from.at from.out.now (omega arith) adds.puts in
    record {
      text = text;
      number = n;
      value = v;
      printed = printed;
      within = omega arith;
      answer = (simp end, simp end (omega (arith, put.1)));
      bytes = simp end (put.0 ∙ ap (λ i. sets from.out.now i text) start);
    }

-- what is written lies within the bytes lent
pub lines_within : (file out : List ℕ) (n : ℕ) (after : List ℕ) → Lines file out (Ok n) after → n ≤ length after
lines_within file out n after p = go (eqb p.number 255) p.answer.0 p.answer.1 p.bytes
  where
    go : (t : Bool) → 0 ≡ cond t 0 p.number → n ≡ cond t (length p.text) p.value → after ≡ cond t (sets out 0 p.text) out → n ≤ length after
    go true e f g = omega (arith, f, p.within, ap length g, length-sets out 0 p.text)
    go false e f g = absurd (omega (arith, e, printed_number p.printed))
