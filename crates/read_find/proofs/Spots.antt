-- The spot of a function: what is read there, and what a walk leaves of it.
--     no_head, no_tail, row_there      what is read at a spot
--     below_stands                     what nested functions inherit, from the place of a source
--     main_stands, no_row_left         at the end of the file no function stands: where main stands, and a spot that was not found
--     this_row                         the row at the spot that a walk leaves of a function is the function's
-- Assumes nothing.
use Rattle.std.specs.Prelude as prelude
use Rattle.std.specs.Prelude.{Some, None, Ok, Err}
use Rattle.read_field.specs.declared.string.StringAt.{StringAt}
use mathlib.Core.Path.{◌≡◌, refl, sym, ◌∙◌, ap}
use mathlib.Core.List.{List, [], append-nil}
use mathlib.Core.Option.{Option, none, some}
use Prim.Native.Nat.{ℕ, ◌+◌}
use lib.ListN.{length, drop, get_or, replicate}
use lib.Seq.{drop-append_seam}
use Rattle.format.specs.GrammarFields.{LuaString}
use Rattle.format.specs.declared.limits.ResourceLimits.{ResourceLimits}
use Rattle.format.specs.declared.refusal.Refusal.{Refusal}
use Rattle.format.specs.Form.{Bytes}
use Rattle.format.specs.GrammarChunk as grammar
use Rattle.format.specs.GrammarChunk.{inherit, outermost}
use Rattle.format.specs.Read.{Read, ok}
use Rattle.slice.specs.declared.cursor.Cursor.{Cursor}
use Rattle.slice.specs.Shown.{cursor_at}
use Rattle.read_field.specs.Shown.{option_string}
use Rattle.read_prototype.specs.declared.parts.Head as declared-head
use Rattle.read_prototype.specs.declared.parts.Tail as declared-tail
use Rattle.read_prototype.specs.Parts as parts
use Rattle.read_prototype.specs.Parts.{Head, Tail}
use Rattle.read_prototype.specs.PartsShown.{head_of, tail_of, head_result, tail_result}
use Rattle.read_prototype.specs.Inner.Counts.{head_counts}
use Rattle.read_prototype.specs.Inner.Row.{row_of}
use Rattle.read_prototype.specs.Inner.Whole.{prototype_of, inside}
use Rattle.read_walk.specs.declared.walk.Skimmed.{Skimmed}
use Rattle.read_walk.specs.Inner.Source.{source_at}
use Rattle.read_walk.proofs.Sources.{spelt-at, inherits_at, none-at-end}
use Rattle.read_find.specs.declared.spot.Above.{Above}
use Rattle.read_find.specs.Inner.Spot.{spot_of, below_shown, standing, inherit_shown, row_shown, row_from, row_at}

-- where the first function stands that nests in one
pub below_stands : (L : ResourceLimits) (s : Bytes) (a : Above) (k : Skimmed) {h : Head} {to : ℕ} {rest : Bytes} → parts.head L k.instructions k.next.at (drop k.next.at s) ≡ ok h to rest → (behind : Cursor)
    → standing L s (below_shown a k (head_counts h).named) (record { next = behind; number = k.number + 1; instructions = k.instructions + (head_counts h).instructions }) ≡ inside (standing L s a k) h
below_stands L s a k {h} e behind = λ i. record {
  number = k.number + 1;
  instructions = k.instructions + length h.lists.instructions.items;
  depth = a.depth + 1;
  parent = k.number;
  source = sym (inherits_at L.max_string_bytes s k.next.at a.source h.front.source (source_at L.max_string_bytes s a.source) (spelt-at L k.instructions s k.next.at e) refl) i;
}

-- ## The end of the file: no function stands there
nothing_left : (s : Bytes) → drop (length s) s ≡ []
nothing_left s = ap (drop (length s)) (sym (append-nil s)) ∙ drop-append_seam s []

-- where main stands
pub main_stands : (L : ResourceLimits) (s : Bytes) (at : Cursor) → standing L s (record { depth = 0; parent = 0; source = length s }) (record { next = at; number = 0; instructions = 0 }) ≡ outermost
main_stands L s at = λ i. record { number = 0; instructions = 0; depth = 0; parent = 0; source = none-at-end L.max_string_bytes s i }

-- ## The row at a spot
module _ (L : ResourceLimits) (s : Bytes) (l : List ℕ) where
  abbrev start : ℕ
  start = get_or l 0 0

  abbrev behind : ℕ
  behind = get_or l 1 0

  abbrev source : prelude.Option StringAt
  source = option_string (source_at L.max_string_bytes s (get_or l 5 0))

  abbrev head-there : Read Head
  head-there = parts.head L (get_or l 2 0) start (drop start s)

  abbrev tail-there : Read Tail
  tail-there = parts.tail L.max_string_bytes behind (drop behind s)

  pub no_head : (q : Refusal) → Err q ≡ head_result head-there → None ≡ row_at L s l
  no_head q e = λ i. row_from (get_or l 3 0) (get_or l 4 0) source start (e i) (tail_result tail-there)

  pub no_tail : (h : declared-head.Head) (c₁ : Cursor) → Ok (h, c₁) ≡ head_result head-there → (q : Refusal) → Err q ≡ tail_result tail-there → None ≡ row_at L s l
  no_tail h c₁ e₁ q e₃ = λ i. row_from (get_or l 3 0) (get_or l 4 0) source start (e₁ i) (e₃ i)

  pub row_there : (h : declared-head.Head) (c₁ : Cursor) → Ok (h, c₁) ≡ head_result head-there → (t : declared-tail.Tail) (c₃ : Cursor) → Ok (t, c₃) ≡ tail_result tail-there
      → (own : prelude.Option StringAt) → own ≡ source → Some (row_shown (get_or l 3 0) (get_or l 4 0) own start h t c₃.at) ≡ row_at L s l
  row_there h c₁ e₁ t c₃ e₃ own e = λ i. row_from (get_or l 3 0) (get_or l 4 0) (e i) start (e₁ i) (e₃ i)

-- none at the end of the file
pub no_row_left : (L : ResourceLimits) (s : Bytes) → row_at L s (replicate 6 (length s)) ≡ None
no_row_left L s =
    ap (λ rest. row_from (length s) (length s) (option_string (source_at L.max_string_bytes s (length s))) (length s) (head_result (parts.head L (length s) (length s) rest)) (tail_result (parts.tail L.max_string_bytes (length s) (drop (length s) s)))) (nothing_left s)

inherited : (own parent : Option LuaString) → inherit_shown (option_string own) (option_string parent) ≡ option_string (inherit own parent)
inherited (some t) parent = refl
inherited none parent = refl

row_shown_lem : (w : grammar.Where) (at : ℕ) (v : Head) (t : Tail) (end : ℕ) → row_shown w.depth w.parent (option_string w.source) at (head_of v) (tail_of t) end ≡ row_of (prototype_of w at v t end)
row_shown_lem w at v t end = λ i. record {
  start = at;
  end = end;
  depth = w.depth;
  parent = w.parent;
  source_name = inherited v.front.source w.source i;
  lines = v.front.lines;
  sizes = v.front.sizes;
  lists = (row_of (prototype_of w at v t end)).lists;
}

-- at the spot of a function
pub this_row : (L : ResourceLimits) (s : Bytes) (a : Above) (k : Skimmed) (tail_at : ℕ) {h : Head} {c₁ : ℕ} {rest₁ : Bytes} {t : Tail} {c₃ : ℕ} {rest₃ : Bytes}
    → parts.head L k.instructions k.next.at (drop k.next.at s) ≡ ok h c₁ rest₁ → parts.tail L.max_string_bytes tail_at (drop tail_at s) ≡ ok t c₃ rest₃
    → row_at L s (spot_of a k tail_at) ≡ Some (row_of (prototype_of (standing L s a k) k.next.at h t c₃))
this_row L s a k tail_at {h} {t} {c₃} e₁ e₃ =
    sym (row_there L s (spot_of a k tail_at) (head_of h) _ (sym (ap head_result e₁)) (tail_of t) (cursor_at c₃) (sym (ap tail_result e₃)) _ refl)
    ∙ ap Some (row_shown_lem (standing L s a k) k.next.at h t c₃)
