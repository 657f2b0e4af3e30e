-- Where a walk over a text stands, and what a byte more does.
-- Assumes nothing.
use mathlib.Core.Bool.{Bool, true, false, cond}
use mathlib.Core.List.{List, [], ◌∷◌, ◌++◌, append_assoc, append-nil}
use mathlib.Core.Path.{◌≡◌, refl, sym, ap, ap₂, subst, ◌∙◌}
use Prim.Native.Nat.{ℕ, suc, ◌+◌, ◌-◌, ◌^◌, ◌≤◌, ◌<◌}
use native.Mathlib.Numerals.{add-one}
use native.Mathlib.Nat.{add-zero}
use native.Mathlib.Omega.{arith}
use native.Mathlib.Decide.{dec_le}
use native.Mathlib.Nat.{lt_of_not-le}
use lib.Dec.{eqb, leb}
use lib.ListN.{length, get_or, drop, length-append, get_or-append, get_or-eq_default}
use lib.Seq.{sets, length-sets, drop-cons, drop-length, get_or-append_seam}
use borrow.Author.Tests.{le-leb, lt-leb, leb-true}
use Rattle.std.specs.Prelude.{Option, Some, None, Result, Ok, Err}
use Rattle.records.specs.declared.Record.{Record}
use Rattle.records.specs.Record.{bytes_of, length_of}
use Rattle.records.specs.Store.{Stores}
use Rattle.records.proofs.Storing.{stores_room}
use Rattle.records.proofs.Standing.{bytes_length}
use Rattle.records.proofs.Stored.{sets_append}
use Rattle.keying.specs.Slip.{slip_number}
use Rattle.keying.specs.Text.{inner, worded, Page, Turn, on, entered, wrong, fresh, grown, finished, ended, turn, Ending, complete, mistake, Meaning, stopped, heard, read, begin, meaning}
use Rattle.keying.specs.Keys.{Answers}
use Rattle.keying.specs.Inner.Walk.{mistake_at, Calls, joined, Walks}
use Rattle.keying.specs.Inner.Machine.{Counts, Turned, blank_reader, reader_turn}
use Rattle.keying.specs.declared.entry.Entry.{Entry}
use Rattle.keying.specs.declared.entry.Entry.TheVariants.{Empty, Marked, Begun, Whole}
use Rattle.keying.specs.declared.entry.Slip.{Slip}
use Rattle.keying.specs.declared.entry.Slip.TheVariants.{TooMany}
use Rattle.keying.specs.declared.keyed.Mistake.{Mistake}
use Rattle.keying.specs.declared.reader.Reader.{Reader}
use Rattle.keying.proofs.Shown.{shown, shown_turn, fresh_shown, turn_shown, shown_counts}

-- the text with the newline that ends its last line
abbrev lined : List ℕ → List ℕ
lined text = text ++ (10 ∷ [])

-- ---- counts stay small
abbrev Small : ℕ → Page → Type 0
Small i p = (p.line ≤ i + 1) × (p.entry ≤ i + 1) × (length p.word ≤ i)

abbrev After : ℕ → Turn → Type 0
After i (on q) = Small (i + 1) q
After i (entered q r) = Small (i + 1) q
After i (wrong slip size) = size ≤ i

either : (i : ℕ) (t : Bool) (x y : Turn) → After i x → After i y → After i (cond t x y)
either i true x y a b = a
either i false x y a b = b

small_grown : (i : ℕ) (p : Page) (b : ℕ) → Small i p → Small (i + 1) (grown p b)
unfolding grown
small_grown i p b h = go p.remark
  where
    go : (t : Bool) → Small (i + 1) (cond t p (record { line = p.line; entry = p.entry; remark = false; partial = p.partial; word = p.word ++ (b ∷ []) }))
    go true = (omega (arith, h.0), omega (arith, h.1), omega (arith, h.2))
    go false = (omega (arith, h.0), omega (arith, h.1), simp length-append (omega (arith, h.2)))

small_finished : (i : ℕ) (e : Entry) (q : Page) → Small (i + 1) q → After i (finished e q)
unfolding finished
small_finished i Empty q h = h
small_finished i (Marked r) q h = omega arith
small_finished i (Begun r) q h = omega arith
small_finished i (Whole r) q h = h

small_ended : (i : ℕ) (p : Page) (b : ℕ) (t : Result Entry Slip) → Small i p → After i (ended p b t)
unfolding ended fresh
small_ended i p b (Err slip) h = h.2
small_ended i p b (Ok e) h =
    either i (eqb b 10) _ _ (small_finished i e _ (omega (arith, h.0), omega arith, omega arith))
    (either i (eqb b 44) _ _ (small_finished i e _ (omega (arith, h.0), omega (arith, h.1), omega arith)) (omega (arith, h.0), omega (arith, h.1), omega arith))

small_turn : (i : ℕ) (p : Page) (b : ℕ) → Small i p → After i (turn p b)
unfolding turn
small_turn i p b h = either i (inner p.remark b) _ _ (small_grown i p b h) (small_ended i p b (worded p.entry p.partial p.word) h)

-- ---- where the walk stands
-- before byte i, with the bytes `done` found
pub record Reached (text : List ℕ) (reader : Reader) (i : ℕ) (done : List ℕ) : Type 0 where
  pub page : Page
  pub shows : reader ≡ shown page
  pub onward : read done page i (drop i (text ++ (10 ∷ []))) ≡ meaning text
  pub small : (page.line ≤ i + 1) × (page.entry ≤ i + 1) × (length page.word ≤ i)

pub reached_start : (text : List ℕ) → Reached text (blank_reader 1 1) (begin text) []
unfolding meaning fresh
reached_start text = record { page = fresh 1 1; shows = fresh_shown 1 1; onward = refl; small = (omega arith, omega arith, omega arith) }

pub reached_counts : {text done : List ℕ} {reader : Reader} {i : ℕ} → Reached text reader i done → i + 2 < 2 ^ 64 → Counts reader
reached_counts w h =
    let n = shown_counts w.page in
    rw w.shows (record { line = omega (arith, n.0, w.small.0); entry = omega (arith, n.1, w.small.1); size = omega (arith, n.2, w.small.2) })

-- the byte at i, and the rest
cut : (text : List ℕ) (i : ℕ) → i ≤ length text → drop i (lined text) ≡ get_or text i 10 ∷ drop (i + 1) (lined text)
cut text i h = rw (add-one i) (drop-cons (lined text) i 10 (simp length-append (omega arith)) ∙ ap (λ (b : ℕ). b ∷ drop (suc i) (lined text)) (go (dec_le (suc i) (length text))))
  where
    go : Dec (suc i ≤ length text) → get_or (lined text) i 10 ≡ get_or text i 10
    go (yes l) = get_or-append text (10 ∷ []) 10 i l
    go (no f) =
        let e : i ≡ length text = omega (arith, lt_of_not-le f) in
        rw e (get_or-append_seam text 10 [] 10 ∙ sym (get_or-eq_default text 10 (omega arith)))

-- ---- what a byte does
module _ (text : List ℕ) (reader : Reader) (i : ℕ) (done : List ℕ) where
  -- a mistake on this line, in this entry
  abbrev Stops : Slip → ℕ → ℕ → Type 0
  Stops slip start size = meaning text ≡ record { file = done; ending = mistake reader.line reader.entry (slip_number slip) start size }

  -- what a byte means for the walk
  abbrev pub Means : Turned → Type 0
  Means (Ok (next, None)) = Reached text next (i + 1) done
  Means (Ok (next, Some r)) =
      (length done + length_of r ≤ 24576 → Reached text next (i + 1) (done ++ bytes_of r)) × (24576 < length done + length_of r → Stops TooMany (i - 0) 0)
  Means (Err (slip, size)) = (size ≤ i) × Stops slip (i - size) size

  pub went_means : Reached text reader i done → i ≤ length text → (s : Turned) → reader_turn reader (get_or text i 10) ≡ s → Means s
  unfolding read heard stopped
  went_means w h s e =
      let b = get_or text i 10 in
      let o : read done w.page i (b ∷ drop (i + 1) (lined text)) ≡ meaning text = rw (cut text i h) at w.onward in
      subst Means (sym (turn_shown w.page b) ∙ ap (λ r. reader_turn r b) (sym w.shows) ∙ e) (by_turn (turn w.page b) o (small_turn i w.page b w.small))
    where
      same_line : reader.line ≡ w.page.line
      same_line = ap (λ r. r.line) w.shows ∙ (shown_counts w.page).0

      same_entry : reader.entry ≡ w.page.entry
      same_entry = ap (λ r. r.entry) w.shows ∙ (shown_counts w.page).1

      by_turn : (t : Turn) → heard done w.page i t (λ more q. read more q (i + 1) (drop (i + 1) (lined text))) ≡ meaning text → After i t → Means (shown_turn t)
      by_turn (on q) o a = record { page = q; shows = refl; onward = o; small = a }
      by_turn (entered q r) o a = (
        (λ fits. record { page = q; shows = refl; onward = rw (le-leb (length done + length_of r) 24576 fits) at o; small = a }),
        (λ over. let same : i - 0 ≡ i = omega arith in rw (same_line, same_entry, same) (sym (rw (lt-leb (length done + length_of r) 24576 over) at o))),
      )
      by_turn (wrong slip size) o a = (a, rw (same_line, same_entry) (sym o))

pub at_end : (text : List ℕ) (reader : Reader) (i : ℕ) (done : List ℕ) → Reached text reader i done → i ≡ length text + 1 → meaning text ≡ record { file = done; ending = complete }
unfolding read
at_end text reader i done w e =
    let l : i ≡ length (lined text) = e ∙ sym (length-append text (10 ∷ [])) in
    let o : read done w.page i (drop (length (lined text)) (lined text)) ≡ meaning text = rw (← l) w.onward in
    sym (rw (drop-length (lined text)) at o)

-- ---- the records told
joined_more : (told : List Record) (r : Record) → joined (told ++ (r ∷ [])) ≡ joined told ++ bytes_of r
joined_more [] r = append-nil (bytes_of r)
joined_more (q ∷ told) r = ap (λ l. bytes_of q ++ l) (joined_more told r) ∙ sym (append_assoc (bytes_of q) (joined told) (bytes_of r))

module _ {F : Type 0} (call : F → ℕ → Record → F → Type 0) where
  -- one record more
  pub calls_more : (told : List Record) (f : F) (at : ℕ) (g h : F) (r : Record) → Calls call f at told g → call g (at + length (joined told)) r h → Calls call f at (told ++ (r ∷ [])) h
  calls_more [] f at g h r e x = (h, rw (e, ← add-zero at) x, refl)
  calls_more (q ∷ told) f at g h r c x =
      let further : at + length (bytes_of q ++ joined told) ≡ at + length_of q + length (joined told) = simp length-append (omega (arith, bytes_length q)) in
      (c.0, c.1, calls_more told c.0 (at + length_of q) g h r c.2 (rw further at x))

  -- what each call keeps, all keep
  pub calls_keep : (name : F → ℕ) → ((f : F) (at : ℕ) (r : Record) (g : F) → call f at r g → name g ≡ name f) → (told : List Record) (f : F) (at : ℕ) (g : F) → Calls call f at told g → name g ≡ name f
  calls_keep name keeps [] f at g e = ap name (sym e)
  calls_keep name keeps (r ∷ told) f at g c = calls_keep name keeps told c.0 (at + length_of r) g c.2 ∙ keeps f at r c.0 c.1

  -- where each call stores its record, the bytes of all stand together
  pub calls_stored : (out : F → List ℕ) → ((f : F) (at : ℕ) (r : Record) (g : F) → call f at r g → (fits : Bool) × Stores r at (out f) fits (out g))
      → (told : List Record) (f : F) (at : ℕ) (g : F) → at + length (joined told) ≤ length (out f) → Calls call f at told g → out g ≡ sets (out f) at (joined told)
  calls_stored out stores [] f at g h e = ap out (sym e)
  calls_stored out stores (r ∷ told) f at g h c =
      let long : length (bytes_of r ++ joined told) ≡ length_of r + length (joined told) = simp length-append (omega (arith, bytes_length r)) in
      let stored = stores f at r c.0 c.1 in
      let one = stores_room r at (out f) stored.0 (out c.0) (omega (arith, long)) stored.1 in
      let size : at + length_of r ≡ at + length (bytes_of r) = omega (arith, bytes_length r) in
      calls_stored out stores told c.0 (at + length_of r) g (omega (arith, long, ap length one.1, length-sets (out f) at (bytes_of r))) c.2
      ∙ ap₂ (λ l i. sets l i (joined told)) one.1 size
      ∙ sets_append (bytes_of r) (joined told) (out f) at

-- ---- where the walk stands, with the records told so far
pub record Told {F : Type 0} (call : F → ℕ → Record → F → Type 0) (text : List ℕ) (f : F) (reader : Reader) (i at : ℕ) (g : F) : Type 0 where
  pub told : List Record
  pub reached : Reached text reader i (joined told)
  pub place : at ≡ length (joined told)
  pub few : at ≤ 24576
  pub calls : Calls call f 0 told g

pub told_start : {F : Type 0} {call : F → ℕ → Record → F → Type 0} (text : List ℕ) (f : F) → Told call text f (blank_reader 1 1) (begin text) 0 f
told_start text f = record { told = []; reached = reached_start text; place = refl; few = omega arith; calls = refl }

module _ {F : Type 0} {call : F → ℕ → Record → F → Type 0} {text : List ℕ} {f g : F} {reader : Reader} {i at : ℕ} (w : Told call text f reader i at g) where
  ends : {ending : Ending} {r : Result ℕ Mistake} → meaning text ≡ record { file = joined w.told; ending = ending } → Answers (record { file = joined w.told; ending = ending }) r → Walks text call f r g
  ends e a = record { told = w.told; file = rw e refl; answer = rw e a; calls = w.calls }

  means : (t : Turned) → i ≤ length text → reader_turn reader (get_or text i 10) ≡ t → Means text reader i (joined w.told) t
  means t h e = went_means text reader i (joined w.told) w.reached h t e

  -- the reader goes on
  pub told_on : (turn : Reader × Option Record) → i ≤ length text → reader_turn reader (get_or text i 10) ≡ Ok turn → turn.1 ≡ None → Told call text f turn.0 (i + 1) at g
  told_on turn h e none = record { told = w.told; reached = means (Ok (turn.0, None)) h (e ∙ ap (λ r. Ok (turn.0, r)) none); place = w.place; few = w.few; calls = w.calls }

  -- one record more
  pub told_more : (turn : Reader × Option Record) (r : Record) (k : F) → i ≤ length text → reader_turn reader (get_or text i 10) ≡ Ok turn → turn.1 ≡ Some r
      → at + length_of r ≤ 24576 → call g at r k → Told call text f turn.0 (i + 1) (at + length_of r) k
  told_more turn r k h e some fits c =
      let all = joined_more w.told r in
      let here : at ≡ 0 + length (joined w.told) = omega (arith, w.place) in
      record {
        told = w.told ++ (r ∷ []);
        reached = rw all ((means (Ok (turn.0, Some r)) h (e ∙ ap (λ r. Ok (turn.0, r)) some)).0 (omega (arith, fits, w.place)));
        place = rw all (simp length-append (omega (arith, w.place, bytes_length r)));
        few = fits;
        calls = calls_more call w.told f 0 g k r w.calls (rw here at c);
      }

  -- the records don't fit
  pub told_over : (turn : Reader × Option Record) (r : Record) → i ≤ length text → reader_turn reader (get_or text i 10) ≡ Ok turn → turn.1 ≡ Some r
      → 24576 < at + length_of r → Walks text call f (Err (mistake_at reader TooMany i 0)) g
  told_over turn r h e some over = ends ((means (Ok (turn.0, Some r)) h (e ∙ ap (λ r. Ok (turn.0, r)) some)).1 (omega (arith, over, w.place))) refl

  -- a mistake
  pub told_wrong : (slip : Slip) (size : ℕ) → i ≤ length text → reader_turn reader (get_or text i 10) ≡ Err (slip, size)
      → (size ≤ i) × Walks text call f (Err (mistake_at reader slip i size)) g
  told_wrong slip size h e = let wrong = means (Err (slip, size)) h e in (wrong.0, ends wrong.1 refl)

  pub told_end : i ≡ length text + 1 → Walks text call f (Ok at) g
  told_end h = ends (at_end text reader i (joined w.told) w.reached h) (refl, w.place)

-- a file is never longer than a job file may be (01, Numbers and limits: "at most 24,576 bytes")
heard_few : (done : List ℕ) (p : Page) (i : ℕ) (t : Turn) (next : List ℕ → Page → Meaning) → length done ≤ 24576
    → ((more : List ℕ) (q : Page) → length more ≤ 24576 → length (next more q).file ≤ 24576) → length (heard done p i t next).file ≤ 24576
unfolding heard stopped
heard_few done p i (on q) next h f = f done q h
heard_few done p i (entered q r) next h f = go (leb (length done + length_of r) 24576) refl
  where
    go : (t : Bool) → leb (length done + length_of r) 24576 ≡ t → length (cond t (next (done ++ bytes_of r) q) (stopped done p TooMany i 0)).file ≤ 24576
    go true e = f (done ++ bytes_of r) q (simp length-append (omega (arith, bytes_length r, leb-true (length done + length_of r) 24576 e)))
    go false e = h
heard_few done p i (wrong slip size) next h f = h

read_few : (rest done : List ℕ) (p : Page) (i : ℕ) → length done ≤ 24576 → length (read done p i rest).file ≤ 24576
unfolding read
read_few [] done p i h = h
read_few (b ∷ rest) done p i h = heard_few done p i (turn p b) _ h (λ more q l. read_few rest more q (i + 1) l)

pub meaning_few : (text : List ℕ) → length (meaning text).file ≤ 24576
unfolding meaning
meaning_few text = read_few (drop (begin text) (lined text)) [] (fresh 1 1) (begin text) (omega arith)
