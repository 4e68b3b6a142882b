-- Bytes put into a table, one part behind the other.
use Rattle.std.proofs.Common.{◌≡◌, ℕ, ◌+◌, ◌*◌, ◌<◌, ◌≤◌, Bool, true, List, [], ◌∷◌, ◌++◌, length, get_or, take, drop, Ok, Option, sym, ap, ◌∙◌, append_assoc, add-zero, add_comm, mul-zero, zero-add, mul-suc, arith, length-append, length-drop, take-append-drop, length-take}
use lib.Seq.{drop-append-add}
use Rattle.std.proofs.lemmas.Grind.{flat_map-append}
use Rattle.std.proofs.lemmas.List.{take_at, take_all, take_more, drop-drop, append-nil}
use Rattle.std.proofs.lemmas.Bool.{le-leb}
use Rattle.std.specs.List.{flat_map}
use Rattle.memory.specs.Tables.{laid_over}
use Rattle.orders.specs.declared.chosen.AnyOrder.{AnyOrder}
use Rattle.files.specs.Encoding.{number_bytes, encode_entry, encode_step}
use Rattle.files.specs.Header.{file_end}
use Rattle.files.specs.Writing.{written_at, fields_for, field_numbers, written_if}
use Rattle.files.specs.declared.header.Fields.{Fields}
use Rattle.files.specs.declared.records.CardEntry.{CardEntry}
use Rattle.files.specs.declared.step.Step.{Step}
use Rattle.files.specs.Recording.{number_length, entry_width, step_width}

pub written_none : (old : List ℕ) (at : ℕ) → old ≡ written_at old at []
written_none old at = sym (rw add-zero (take-append-drop at old))

pub written_length : (old new : List ℕ) (at : ℕ) → at + length new ≤ length old → length (written_at old at new) ≡ length old
written_length old new at h = simp (length-append, length-take, length-drop) (omega arith)

-- a part behind a part
pub written_more : (old a b : List ℕ) (at : ℕ) → at + length a + length b ≤ length old → written_at (written_at old at a) (at + length a) b ≡ written_at old at (a ++ b)
written_more old a b at h =
    let rest = drop (at + length a) old in
    let l : length (take at old ++ a) ≡ at + length a = simp (length-append, length-take) (omega arith) in
    let s : written_at old at a ≡ (take at old ++ a) ++ rest = sym (append_assoc (take at old) a rest) in
    let t : take (at + length a) ((take at old ++ a) ++ rest) ≡ take at old ++ a = take_at (take at old ++ a) rest (at + length a) l in
    let d : drop (length (take at old ++ a) + length b) ((take at old ++ a) ++ rest) ≡ drop (length b) rest = drop-append-add (take at old ++ a) rest (length b) in
    let e = drop-drop (length b) (at + length a) old in
    let n : at + length (a ++ b) ≡ at + length a + length b = simp length-append (omega arith) in
    let front : take (at + length a) (written_at old at a) ≡ take at old ++ a = ap (take (at + length a)) s ∙ t in
    let back : drop (at + length a + length b) (written_at old at a) ≡ drop (at + length a + length b) old =
    ap (drop (at + length a + length b)) s ∙ ap (λ k. drop (k + length b) ((take at old ++ a) ++ rest)) (sym l) ∙ d ∙ e in
    ap (λ xs. xs ++ (b ++ drop (at + length a + length b) (written_at old at a))) front
    ∙ ap (λ xs. (take at old ++ a) ++ (b ++ xs)) back
    ∙ rw n (simp append_assoc)

-- the same, by what the table held before and after
pub put_behind : (old a b before after : List ℕ) (at next : ℕ) → at + length a + length b ≤ length old → before ≡ written_at old at a → next ≡ at + length a
    → after ≡ written_at before next b → after ≡ written_at old at (a ++ b)
put_behind old a b before after at next h e n f =
    f ∙ ap (λ xs. written_at xs next b) e ∙ ap (λ i. written_at (written_at old at a) i b) n ∙ written_more old a b at h

-- all from the first byte on
pub written_front : (old new : List ℕ) → length new ≤ length old → written_at old 0 new ≡ laid_over new old
written_front old new h =
    let t : take (length old) new ≡ new = take_all (length old) new h in
    rw (t, zero-add)

-- four parts from the first byte on
pub four_parts_put : (old a b c d o1 o2 o3 o4 : List ℕ) (i j k : ℕ) → length a + length b + length c + length d ≤ length old
    → o1 ≡ written_at old 0 a → i ≡ 0 + length a → o2 ≡ written_at o1 i b → j ≡ i + length b → o3 ≡ written_at o2 j c → k ≡ j + length c → o4 ≡ written_at o3 k d
    → o4 ≡ laid_over (a ++ (b ++ (c ++ d))) old
four_parts_put old a b c d o1 o2 o3 o4 i j k h e ie f je g ke w =
    let two = put_behind old a b o1 o2 0 i (omega arith) e ie f in
    let lb : length (a ++ b) ≡ length a + length b = length-append a b in
    let three = put_behind old (a ++ b) c o2 o3 0 j (omega arith) two (omega arith) g in
    let lc : length ((a ++ b) ++ c) ≡ length (a ++ b) + length c = length-append (a ++ b) c in
    let four = put_behind old ((a ++ b) ++ c) d o3 o4 0 k (omega arith) three (omega arith) w in
    let ld : length (((a ++ b) ++ c) ++ d) ≡ length ((a ++ b) ++ c) + length d = length-append ((a ++ b) ++ c) d in
    let all : ((a ++ b) ++ c) ++ d ≡ a ++ (b ++ (c ++ d)) = simp append_assoc in
    four ∙ written_front old (((a ++ b) ++ c) ++ d) (omega arith) ∙ ap (λ xs. laid_over xs old) all

-- one row more
pub joined_next : {X : Type 0} (f : X → List ℕ) (xs : List X) (n : ℕ) (x : X) → n < length xs → x ≡ get_or xs n x → flat_map f (take (n + 1) xs) ≡ flat_map f (take n xs) ++ f x
joined_next f xs n x h e =
    ap (flat_map f) (take_more xs n x h) ∙ flat_map-append f (take n xs) (get_or xs n x ∷ [])
    ∙ ap (λ t. flat_map f (take n xs) ++ t) (append-nil (f (get_or xs n x)) ∙ ap f (sym e))

-- rows of so many bytes each
pub joined_length : {X : Type 0} (f : X → List ℕ) (w : ℕ) (xs : List X) → ((x : X) → length (f x) ≡ w) → length (flat_map f xs) ≡ w * length xs
joined_length f w [] h = sym (mul-zero w)
joined_length f w (x ∷ xs) h = length-append (f x) (flat_map f xs) ∙ ap (λ n. n + length (flat_map f xs)) (h x) ∙ ap (λ n. w + n) (joined_length f w xs h)
    ∙ add_comm w (w * length xs) ∙ sym (mul-suc w (length xs))

-- numbers have four bytes each, entries and steps twelve
pub number_widths : (ns : List ℕ) → length (flat_map number_bytes ns) ≡ 4 * length ns
number_widths ns = joined_length number_bytes 4 ns number_length

pub entry_widths : (es : List CardEntry) → length (flat_map encode_entry es) ≡ 12 * length es
entry_widths es = joined_length encode_entry 12 es entry_width

pub step_widths : (ss : List Step) → length (flat_map encode_step ss) ≡ 12 * length ss
step_widths ss = joined_length encode_step 12 ss step_width

-- the sections together are as long as the header says
pub sections_length : (order : Option AnyOrder) (cards : ℕ) (words : List ℕ) (entries : List CardEntry) (steps : List Step) (f : Fields) (numbers : List ℕ)
    → f ≡ fields_for order cards (length words) (length entries) (length steps) → numbers ≡ field_numbers f
    → length (flat_map number_bytes numbers) + length (flat_map number_bytes words) + length (flat_map encode_entry entries) + length (flat_map encode_step steps) ≡ file_end f
sections_length order cards words entries steps f numbers e n =
    let h = ap (λ xs. length (flat_map number_bytes xs)) n ∙ number_widths (field_numbers f) in
    let w = number_widths words in
    let x = entry_widths entries in
    let y = step_widths steps in
    let end = ap file_end e in
    omega arith

-- what an accepted writing answers
pub writing_ok : (legal : Bool) (end len n : ℕ) → legal ≡ true → end ≤ len → n ≡ end → Ok n ≡ written_if legal end len
writing_ok legal end len n w l e =
    let r = le-leb end len l in
    rw (w, r, e)

-- the parts of a file that is written, and where it ends
pub record Widths (end numbers words entries steps : ℕ) : Type 0 where
  pub header : numbers ≡ 32
  pub whole : 32 + words + entries + steps ≡ end

pub written_widths : (order : Option AnyOrder) (cards : ℕ) (words : List ℕ) (entries : List CardEntry) (steps : List Step) (f : Fields) (numbers : List ℕ)
    → f ≡ fields_for order cards (length words) (length entries) (length steps) → numbers ≡ field_numbers f
    → Widths (file_end f) (length (flat_map number_bytes numbers)) (length (flat_map number_bytes words)) (length (flat_map encode_entry entries)) (length (flat_map encode_step steps))
written_widths order cards words entries steps f numbers e n =
    let h : length (flat_map number_bytes numbers) ≡ 32 = ap (λ xs. length (flat_map number_bytes xs)) n ∙ number_widths (field_numbers f) in
    let s = sections_length order cards words entries steps f numbers e n in
    record { header = h; whole = omega arith }
