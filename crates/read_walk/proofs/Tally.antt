-- What the walk counts in lent memory. What is read of the functions is in `Passes.antt` and `SoFar.antt`; here what is counted of them.
--     refuses          what the walk shows where it refuses: of the count nothing
--     covers_forest    no functions have more than bytes
--     own_fits ..      one function: there is room for each of its parts, and they are all of its count
--     Total            functions one after the other: those counted so far, and those that are left
-- Assumes nothing.
use Rattle.std.specs.Prelude.{Ok, Err}
use mathlib.Core.Path.{◌≡◌, sym, subst, ◌∙◌, ap, ap₂}
use mathlib.Core.List.{List, [], ◌++◌}
use mathlib.Core.Option.{Option}
use Prim.Native.Nat.{ℕ, zero, suc, ◌-◌, ◌^◌, ◌<◌, ◌≤◌}
use native.Mathlib.Omega.{arith}
use lib.Dec.{leb}
use lib.ListN.{drop}
use Rattle.format.specs.declared.limits.ResourceLimits.{ResourceLimits}
use Rattle.format.specs.declared.refusal.Refusal.{Refusal}
use Rattle.format.specs.declared.refusal.Refusal.TheVariants.{TotalPrototypes}
use Rattle.format.specs.declared.spelling.Spelling.{Spelling}
use Rattle.format.specs.Form.{Bytes}
use Rattle.format.specs.GrammarFields.{LuaString}
use Rattle.format.specs.Reading.{Prototype}
use Rattle.format.specs.GrammarChunk.{Where, after}
use Rattle.format.specs.Read.{Read, ok}
use Rattle.format.specs.ReadChunk.{forest, function}
use Rattle.format.proofs.Exact.{exact_give, never}
use Rattle.format.proofs.ExactChunk.{exact_function}
use Rattle.format_spelling.specs.Spelling.{◌⊕◌, dropping}
use Rattle.format_spelling.specs.ReadSpelling as count
use Rattle.format_spelling.specs.Inner.Tally.{counts, Between, Room, Fits, Adds}
use Rattle.format_spelling.proofs.Sums.{join_same, join_assoc, spelling_path}
use Rattle.format_spelling.proofs.Covers.{Covers, covers_none, covers_then, covers_last, between_join}
use Rattle.format_spelling.proofs.Passing.{past}
use Rattle.format_spelling.proofs.Tallies.{room-on, adds-not, adds-all}
use Rattle.slice.specs.declared.cursor.Cursor.{Cursor}
use Rattle.read_field.specs.Shown.{option_string}
use Rattle.read_prototype.specs.declared.pass.HeadCounts.{HeadCounts}
use Rattle.read_prototype.specs.declared.pass.TailCounts.{TailCounts}
use Rattle.read_prototype.specs.Parts as parts
use Rattle.read_prototype.specs.PartsSpelt as spelt
use Rattle.read_prototype.specs.Inner.Counts.{is_spelt, head_counts_result, tail_counts_result}
use Rattle.read_prototype.proofs.OwnSource.{own_between}
use Rattle.read_walk.specs.declared.walk.Skimmed.{Skimmed}
use Rattle.read_walk.specs.Inner.Skim.{entered, on, skim_result}
use Rattle.read_walk.specs.Inner.Source.{source_at, repeats, repeats_at, unpadded_at, handed}
use Rattle.read_walk.specs.Inner.Spelt.{nested_spelt, own_source}
use Rattle.read_walk.proofs.OneFunction.{skim_err, Skims, skim_read}
use Rattle.read_walk.proofs.Entering.{enters}
use Rattle.read_walk.proofs.Passes as passes
use Rattle.read_walk.proofs.Sources.{spelt-at, inherits_at}
use Rattle.read_walk.proofs.Unpadded.{unpadded_source}
use Rattle.read_walk.proofs.Spelt.{own_dropped, function-spelt, covers_function, turned, no_more}

-- from the number and the instructions so far on
pub refuses : {number instructions : ℕ} {source : Option LuaString} {q : Refusal} {o : Where → Read (List Prototype)} {a : Where → Spelling} {t t' : List ℕ}
    → ((w : Where) → number ≡ w.number → instructions ≡ w.instructions → Err q ≡ skim_result w (o w))
    → ((w : Where) → number ≡ w.number → instructions ≡ w.instructions → Err q ≡ skim_result w (o w)) × ((w : Where) → number ≡ w.number → instructions ≡ w.instructions → w.source ≡ source → Adds (o w) (a w) t t')
refuses {q = q} {o = o} e = (e, λ w n i _. adds-not (skim_err w (o w) q (e w n i)))

-- ## No function has more than bytes
covers_entered : (L : ResourceLimits) (left : ℕ) (w : Where) → Covers (entered L left w) (nested_spelt L left w)
covers_entered L zero w = record { covers = λ at s e. absurd (never e) }
covers_entered L (suc left) w = record { covers = λ at s e. (covers_function L left w).covers at s (past (leb w.number L.max_total_prototypes) (TotalPrototypes at) (function L left w) at s e) }

covers_forest : (L : ResourceLimits) (left n : ℕ) (w : Where) → Covers (forest n (entered L left) w) (count.forest n (entered L left) (nested_spelt L left) w)
covers_forest L left zero w = covers_none (exact_give [])
covers_forest L left (suc n) w = covers_then (covers_entered L left w) λ ps. covers_last (covers_forest L left n (after ps w)) λ more. covers_none (exact_give (ps ++ more))

-- ## One function
total_fits : {a b : Spelling} {to : ℕ} → Between (a ⊕ b) 0 to → to < 2 ^ 64 → Fits a b
total_fits x l = record { padded = omega (arith, x.padded, l); filled = omega (arith, x.filled, l); sources = omega (arith, x.sources, l); repeated = omega (arith, x.repeated, l) }

sum_of : (a b c d : Spelling) → a ⊕ b ⊕ c ⊕ d ≡ a ⊕ (b ⊕ (c ⊕ d))
sum_of a b c d = spelling_path _ _ (omega arith) (omega arith) (omega arith) (omega arith)

-- its head
module _ (s : Bytes) (L : ResourceLimits) (left : ℕ) (w : Where) (at : ℕ) {before : ℕ} (so_far : before ≡ w.instructions) (n : HeadCounts) (c₁ : Cursor) (e₁ : Ok (n, c₁) ≡ head_counts_result (parts.head L before at (drop at s)))
    {t t₁ : List ℕ} (room : Room t at) (g₁ : Adds (parts.head L before at (drop at s)) (spelt.head L before at (drop at s)) t t₁)
    (source : ℕ) (outer : w.source ≡ source_at L.max_string_bytes s source) where
  abbrev its_head : parts.Head
  its_head = passes.its_head s L left w at so_far n c₁ e₁

  abbrev first : Where
  first = passes.first s L left w at so_far n c₁ e₁

  head-on : parts.head L w.instructions at (drop at s) ≡ ok its_head c₁.at (drop c₁.at s)
  head-on = passes.head-on s L left w at so_far n c₁ e₁

  abbrev head-count : Spelling
  head-count = spelt.head L w.instructions at (drop at s) ⊕ dropping w its_head.front.source

  -- with its own source, which may be dropped
  abbrev own : Spelling
  own = own_source n.named w.number (repeats_at L.max_string_bytes s at source)

  spells : source_at L.max_string_bytes s at ≡ its_head.front.source
  spells = spelt-at L w.instructions s at head-on

  -- those that nest in it inherit what is spelt at the place that is handed to them
  pub inherits : first.source ≡ source_at L.max_string_bytes s (handed n.named (unpadded_at s at) source)
  inherits =
      inherits_at L.max_string_bytes s (unpadded_at s at) source its_head.front.source w.source (unpadded_source L.max_string_bytes s at ∙ spells) outer
      ∙ ap (λ n. source_at L.max_string_bytes s (handed n.named (unpadded_at s at) source)) (sym (passes.head-counts s L left w at so_far n c₁ e₁))

  headed : counts t₁ ⊕ own ≡ counts t ⊕ head-count
  headed =
      ap₂ ◌⊕◌
      (g₁.adds (passes.headed s L left w at so_far n c₁ e₁).is ∙ ap (λ m. counts t ⊕ spelt.head L m at (drop at s)) so_far)
      (ap (λ n. own_source n.named w.number (repeats_at L.max_string_bytes s at source)) (passes.head-counts s L left w at so_far n c₁ e₁)
      ∙ ap₂ (λ t p. own_source (is_spelt (option_string its_head.front.source)) w.number (repeats t p)) spells (sym outer)
      ∙ own_dropped w its_head.front.source)
      ∙ join_assoc (counts t) (spelt.head L w.instructions at (drop at s)) (dropping w its_head.front.source)

  first_lies : Between (counts t₁ ⊕ own) 0 c₁.at
  first_lies = subst (λ a. Between a 0 c₁.at) (sym headed) (between_join room.room (own_between L w.instructions w at (drop at s) head-on))

  pub own_fits : c₁.at < 2 ^ 64 → Fits (counts t₁) own
  own_fits = total_fits first_lies

  -- those that nest in it
  abbrev inner : Read (List Prototype)
  inner = passes.inner s L left w at so_far n c₁ e₁

  abbrev nested_count : Spelling
  nested_count = count.forest n.protos (entered L left) (nested_spelt L left) first c₁.at (drop c₁.at s)

  module _ {t₂ : List ℕ} (g₂ : counts t₂ ≡ counts t₁ ⊕ own) where
    pub first_room : Room t₂ c₁.at
    first_room = record { room = subst (λ a. Between a 0 c₁.at) (sym g₂) first_lies }

    module _ (k : Skimmed) (e₂ : Ok k ≡ skim_result first inner) {t₃ : List ℕ} (g₃ : Adds inner nested_count t₂ t₃) where
      nested : Skims (forest n.protos (entered L left)) s first c₁.at k
      nested = passes.nested s L left w at so_far n c₁ e₁ k e₂

      pub nested_room : Room t₃ k.next.at
      nested_room = room-on (covers_forest L left n.protos first) c₁.at (drop c₁.at s) first_room nested.is g₃

      -- its tail
      abbrev ends : Read parts.Tail
      ends = parts.tail L.max_string_bytes k.next.at (drop k.next.at s)

      abbrev tail-count : Spelling
      tail-count = spelt.tail L.max_string_bytes k.next.at (drop k.next.at s)

      module _ (x : TailCounts) (c₃ : Cursor) (e₃ : Ok (x, c₃) ≡ tail_counts_result ends) {t₄ : List ℕ} (g₄ : Adds ends tail-count t₃ t₄) where
        many : n.protos ≡ its_head.protos.count
        many = passes.many s L left w at so_far n c₁ e₁

        pub function-counted : Adds (function L left w at (drop at s)) (count.function L left w at (drop at s)) t t₄
        function-counted =
            adds-all
            (g₄.adds (passes.tailed s L left w at so_far n c₁ e₁ k e₂ x c₃ e₃).is
            ∙ ap (λ a. a ⊕ tail-count) (g₃.adds nested.is ∙ ap (λ a. a ⊕ nested_count) (g₂ ∙ headed))
            ∙ sum_of (counts t) head-count nested_count tail-count
            ∙ ap (λ a. counts t ⊕ a)
            ((λ i. head-count ⊕ (count.forest (many i) (entered L left) (nested_spelt L left) first c₁.at (drop c₁.at s) ⊕ tail-count))
            ∙ sym (function-spelt L left w at (drop at s) head-on (ap (λ m. forest m (entered L left) first c₁.at (drop c₁.at s)) (sym many) ∙ nested.is))))

-- ## Functions one after the other
module _ (L : ResourceLimits) (left : ℕ) (s : Bytes) where
  abbrev counts-from : ℕ → Where → ℕ → Spelling
  counts-from n w at = count.forest n (entered L left) (nested_spelt L left) w at (drop at s)

  -- t was counted before the n functions from w on, t' before those that are left from k on
  pub record Total (w : Where) (n from : ℕ) (t : List ℕ) (k : Skimmed) (more : ℕ) (t' : List ℕ) : Type 0 where
    pub total : counts t ⊕ counts-from n w from ≡ counts t' ⊕ counts-from more (on w k) k.next.at

  pub total_starts : (w : Where) (n : ℕ) (k : Skimmed) (t : List ℕ) → k.number ≡ w.number → k.instructions ≡ w.instructions → Total w n k.next.at t k n t
  total_starts w n k t e i = record { total = λ j. counts t ⊕ counts-from n (record { number = sym e j; instructions = sym i j; depth = w.depth; parent = w.parent; source = w.source }) k.next.at }

  module _ (w : Where) (n from : ℕ) (t : List ℕ) (k : Skimmed) (more : ℕ) (t' : List ℕ) (a : Total w n from t k more t') where
    pub total_ends : more ≤ 0 → Adds (forest n (entered L left) w from (drop from s)) (counts-from n w from) t t'
    total_ends over = adds-all (sym (a.total ∙ ap (λ c. counts t' ⊕ c) (no_more L left (on w k) k.next.at (drop k.next.at s) more over) ∙ join_same (counts t')))

  -- the next one
  module _ (k : Skimmed) (t : List ℕ) (later : Skimmed) (t' : List ℕ) (w : Where)
      (e : Ok later ≡ skim_result (on w k) (function L (left - 1) (on w k) k.next.at (drop k.next.at s)))
      (g : Adds (function L (left - 1) (on w k) k.next.at (drop k.next.at s)) (count.function L (left - 1) (on w k) k.next.at (drop k.next.at s)) t t') where
    abbrev at : ℕ
    at = k.next.at

    read : Skims (function L (left - 1)) s (on w k) at later
    read = skim_read (exact_function L (left - 1)) s (on w k) at later e

    pub later_room : Room t at → Room t' later.next.at
    later_room room = room-on (covers_function L (left - 1) (on w k)) at (drop at s) room read.is g

    pub total_on : {n from : ℕ} {t₀ : List ℕ} {more : ℕ} → Total w n from t₀ k more t → 0 < more → 0 < left → k.number ≤ L.max_total_prototypes → Total w n from t₀ later (more - 1) t'
    total_on {more = more} a there level few = record {
      total =
          a.total
          ∙ ap (λ c. counts t ⊕ c) (turned L left (on w k) at (drop at s) more there level (enters L left (on w k) at (drop at s) level few ∙ read.is))
          ∙ sym (join_assoc (counts t) (count.function L (left - 1) (on w k) at (drop at s)) (counts-from (more - 1) (after read.value (on w k)) later.next.at))
          ∙ ap₂ (λ c v. c ⊕ counts-from (more - 1) (on w v) later.next.at) (sym (g.adds read.is)) (sym read.shows);
    }
