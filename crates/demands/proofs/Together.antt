-- Together the summary, the fields and the entries show the reading (01 'Calls'). The definitions are in `Alike.antt`.
--     alike_exactly            of chunks that are read, the calls answer alike exactly where the readings are equal, but for what none of them shows
--     index_alike              where the index is alike too, so are start and end of every function, and where its words and its constants begin
--     Summarised, summary_met  what holds after a call of `chunk_summary`: its answer, and that the chunk is bytes, which `alike_exactly` asks. So it is after every call on a chunk (`Slices.antt`)
-- Refused, left to right: a call that shows main's fields for every function, or leaves a field out; a reading that has a part which no call shows. Refused, right to left: an `EqualAsShown` that drops a field.
-- Assumes nothing.
use Rattle.std.specs.Prelude.{Result, Ok}
use Rattle.format.specs.declared.refusal.Refusal.{Refusal}
use mathlib.Core.Path.{◌≡◌, refl, sym, ◌∙◌, ap}
use mathlib.Core.Logic.{◌↔◌}
use mathlib.Core.Bool.{true}
use mathlib.Core.List.{List, [], ◌∷◌, ◌++◌}
use mathlib.Core.Option.{Option, none, some}
use Prim.Native.Nat.{ℕ}
use native.Mathlib.Omega.{arith}
use lib.Dec.{leb}
use types.Logic.{Logic}
use borrow.Author.Tests.{le-leb}
use lib.ListN.{length, drop, length-append, get_elem?}
use seplogic.Ra.Ura.{Ura}
use base.Logic.{emp}
use prog.Model.{Model}
use prog.Wired.{Wired}
use contract.Monad.{fact, fact_mono}
use contract.Running.{Running}
use denote.Triple.Spec.{Meets, exits}
use mir.Syntax.{w8}
use mir.Facts.{to_z_inj}
use Rattle.format.specs.declared.limits.ResourceLimits.{ResourceLimits}
use Rattle.format.specs.declared.refusal.Refusal.TheVariants.{NoFunction, NoEntry}
use Rattle.format.specs.Form.{Bytes, Below}
use Rattle.format.specs.Reading.{Reading, Prototype}
use Rattle.format.specs.ReadChunk.{shown, read}
use Rattle.format.proofs.ReadChunkLaws.{read_sound}
use Rattle.format_spelling.specs.ReadSpelling.{spelling}
use Rattle.show_row.specs.Asked.{Asked, found, refused, or_refuse, function_of, entry_of, entry_in}
use Rattle.show_chunk.specs.declared.summary.ChunkSummary.{ChunkSummary}
use Rattle.show_chunk.specs.contracts.summary.chunk_summary as call
use Rattle.show_chunk.proofs.summary.chunk_summary.Symbol as symbol
use Rattle.show_chunk.proofs.summary.chunk_summary.Met as theorem
use Rattle.read_chunk.specs.declared.summary.Summary.{Summary}
use Rattle.read_chunk.specs.Decoded.{summary_of}
use Rattle.show_chunk.specs.Summaries.{shown_summary, trailing_of}
use Rattle.show_chunk.specs.Fields.{fields_of, shown_fields}
use Rattle.show_entry.specs.Entries.{shown_word, shown_constant, shown_upvalue, shown_delta, shown_anchor, shown_name}
use Rattle.show_local.specs.Locals.{shown_local, name_written}
use Rattle.index.specs.Index.{index, shown_index, index_written}
use Rattle.index.proofs.Whole.{index-length}
use Rattle.demands.proofs.Slices.{bytes_known}
use Rattle.demands.proofs.Calls.{ShowsFunction, shows, entry_is, located}
use Rattle.demands.proofs.Same.{Pairwise, SameLocal}
use Rattle.demands.proofs.Fits.{integers_fit, deltas_fit}
use Rattle.demands.proofs.Alike.{without_count, source_shown, constant_shown, name_shown, AnswerAlike, EqualFunction, EqualAsShown, SamePlaces, IndexAlike}
use Rattle.demands.proofs.ReadBack.{Related, by_entries, entries_of, related, shown_list, option_same, value_same, front_same, locals_same, warnings-same, few_warnings}
use Rattle.demands.proofs.ShownEqual.{same_summaries, fields_equal, option_of, option_shown_lem, value_of, value-shown, name_of, name_shown_lem, locals_shown, locals_written}

abbrev uncounted : Summary → ChunkSummary
uncounted y = record { summary = y; padded_numbers = 0 }

-- ## Alike, so equal
module _ (L M : ResourceLimits) (s t : Bytes) (below : Below 256 s) (below' : Below 256 t) (r q : Reading) (is : read L s ≡ shown r) (is' : read M t ≡ shown q) where
  module _ (alike : AnswerAlike L s M t) where
    module _ (f : ℕ) (p p' : Prototype) (there : get_elem? r.functions f ≡ some p) (there' : get_elem? q.functions f ≡ some p') where
      one : ShowsFunction L s f p
      one = (shows L s r is).function f p there

      two : ShowsFunction M t f p'
      two = (shows M t q is').function f p' there'

      same_fields : fields_of p ≡ fields_of p'
      same_fields = let both = sym one.fields ∙ alike.fields f ∙ two.fields in cc

      -- what is shown of entry i of a list, in two ways
      entries : {A B : Type 0} (list : Prototype → List A) (show show' : Asked A → B) (i : ℕ) → show (entry_of list f i (read L s)) ≡ show' (entry_of list f i (read M t))
          → show (or_refuse NoEntry (get_elem? (list p) i)) ≡ show' (or_refuse NoEntry (get_elem? (list p') i))
      entries list show show' i e = sym (ap show (entry_is L s r is f p there list i)) ∙ e ∙ ap show' (entry_is M t q is' f p' there' list i)

      -- and where there is one
      entry : {A B : Type 0} (list : Prototype → List A) (show show' : Asked A → B) (i : ℕ) → show (entry_of list f i (read L s)) ≡ show' (entry_of list f i (read M t))
          → (x y : A) → get_elem? (list p) i ≡ some x → get_elem? (list p') i ≡ some y → show (found x) ≡ show' (found y)
      entry list show show' i e x y h k = sym (ap (λ o. show (or_refuse NoEntry o)) h) ∙ entries list show show' i e ∙ ap (λ o. show' (or_refuse NoEntry o)) k

      function_equal : EqualFunction p p'
      function_equal = record {
        depth = ap (λ x. x.depth) same_fields;
        parent = ap (λ x. x.parent) same_fields;
        source_name = option_same s t p.source_name p'.source_name one.source_bytes two.source_bytes (ap (λ x. x.source_name) same_fields)
            (sym (ap (source_shown s) one.fields) ∙ alike.source_bytes f ∙ ap (source_shown t) two.fields);
        line_defined = ap (λ x. x.line_defined) same_fields;
        last_line_defined = ap (λ x. x.last_line_defined) same_fields;
        numparams = ap (λ x. x.numparams) same_fields;
        is_vararg = ap (λ x. x.is_vararg) same_fields;
        maxstacksize = ap (λ x. x.maxstacksize) same_fields;
        instructions = shown_list shown_word (λ x q e. let z : ◌≡◌ {A = ℕ} 0 1 = cc in omega arith) p.instructions p'.instructions (λ i x y _ _ h. cc) (λ i. entries (λ p. p.instructions) shown_word shown_word i (alike.instruction f i));
        constants = shown_list shown_constant (λ x q e. let z : ◌≡◌ {A = ℕ} 0 1 = cc in omega arith) p.constants p'.constants
            (λ i x y e e' h. value_same s t x y (one.constant_bytes i x e) (integers_fit s below L p (located L s r is f p there) i x e) (two.constant_bytes i y e') (integers_fit t below' M p' (located M t q is' f p' there') i y e') (cc)
            (entry (λ p. p.constants) (λ a. constant_shown s (shown_constant a)) (λ a. constant_shown t (shown_constant a)) i (alike.constant_bytes f i) x y e e'))
            (λ i. entries (λ p. p.constants) shown_constant shown_constant i (alike.constant f i));
        upvalues = shown_list shown_upvalue (λ x q e. let z : ◌≡◌ {A = ℕ} 0 1 = cc in omega arith) p.upvalues p'.upvalues (λ i x y _ _ h. cc) (λ i. entries (λ p. p.upvalues) shown_upvalue shown_upvalue i (alike.upvalue f i));
        protos = ap (λ x. x.counts.protos) same_fields;
        line_info_lem = shown_list shown_delta (λ x q e. let z : ◌≡◌ {A = ℕ} 0 1 = cc in omega arith) p.line_info_lem p'.line_info_lem
            (λ i x y e e' h. to_z_inj {w = w8} (record { fits = deltas_fit s below L p (located L s r is f p there) i x e }) (record { fits = deltas_fit t below' M p' (located M t q is' f p' there') i y e' }) (cc))
            (λ i. entries (λ p. p.line_info_lem) shown_delta shown_delta i (alike.delta f i));
        abs_line_info = shown_list shown_anchor (λ x q e. let z : ◌≡◌ {A = ℕ} 0 1 = cc in omega arith) p.abs_line_info p'.abs_line_info (λ i x y _ _ h. cc) (λ i. entries (λ p. p.abs_line_info) shown_anchor shown_anchor i (alike.anchor f i));
        loc_vars = by_entries SameLocal p.loc_vars p'.loc_vars (λ i. locals_same (get_elem? p.loc_vars i) (get_elem? p'.loc_vars i)
            (λ old. entries (λ p. p.loc_vars) (shown_local (length old)) (shown_local (length old)) i (alike.local f i old)) (λ old. entries (λ p. p.loc_vars) (name_written old) (name_written old) i (alike.local_name f i old)));
        upvalue_names_lem = shown_list shown_name (λ x q e. let z : ◌≡◌ {A = ℕ} 0 1 = cc in omega arith) p.upvalue_names_lem p'.upvalue_names_lem
            (λ i x y e e' h. option_same s t x y (one.upvalue_name_bytes i x e) (two.upvalue_name_bytes i y e') (cc) (entry (λ p. p.upvalue_names_lem) (λ a. name_shown s (shown_name a)) (λ a. name_shown t (shown_name a)) i (alike.upvalue_name_bytes f i) x y e e'))
            (λ i. entries (λ p. p.upvalue_names_lem) shown_name shown_name i (alike.upvalue_name f i));
      }

    same_summary : summary_of r ≡ summary_of q
    same_summary =
        let both = sym (ap (λ o. without_count (shown_summary (spelling L s) o)) is) ∙ alike.summary ∙ ap (λ o. without_count (shown_summary (spelling M t) o)) is' in
        let parts : uncounted (summary_of r) ≡ uncounted (summary_of q) = cc in
        ap (λ y. y.summary) parts

    alike_equal : EqualAsShown r q
    alike_equal = record {
      header = ap (λ x. x.header) same_summary;
      warnings = warnings-same r.warnings q.warnings (few_warnings L s r (read_sound L s r is)) (few_warnings M t q (read_sound M t q is')) (ap (λ x. x.warnings) same_summary);
      functions = by_entries EqualFunction r.functions q.functions (λ f.
          related shown_fields (λ x q e. let z : ◌≡◌ {A = ℕ} 0 1 = cc in omega arith) EqualFunction NoFunction (get_elem? r.functions f) (get_elem? q.functions f)
          (λ p p' e e' _. function_equal f p p' e e') (sym (ap (λ o. shown_fields (function_of f o)) is) ∙ alike.fields f ∙ ap (λ o. shown_fields (function_of f o)) is'));
      trailing_at = ap (λ x. x.trailing_at) same_summary;
      trailing = sym (ap trailing_of is) ∙ alike.trailing ∙ ap trailing_of is';
    }

  -- ## Equal, so alike
  module _ (equal : EqualAsShown r q) where
    -- what is said of a function on each side, by what the two have in common
    by_function : {B : Type 0} (g h : Asked Prototype → B) → g (refused NoFunction) ≡ h (refused NoFunction)
        → ((f : ℕ) (p p' : Prototype) → get_elem? r.functions f ≡ some p → get_elem? q.functions f ≡ some p' → EqualFunction p p' → g (found p) ≡ h (found p')) → (f : ℕ) → g (function_of f (read L s)) ≡ h (function_of f (read M t))
    by_function g h none-there one f = ap (λ o. g (function_of f o)) is ∙ go (get_elem? r.functions f) (get_elem? q.functions f) refl refl (entries_of EqualFunction r.functions q.functions equal.functions f) ∙ sym (ap (λ o. h (function_of f o)) is')
      where
        go : (a b : Option Prototype) → get_elem? r.functions f ≡ a → get_elem? q.functions f ≡ b → Related EqualFunction a b → g (or_refuse NoFunction a) ≡ h (or_refuse NoFunction b)
        go none none e e' k = none-there
        go none (some p') e e' k = absurd k
        go (some p) none e e' k = absurd k
        go (some p) (some p') e e' k = one f p p' e e' k

    equal_alike : AnswerAlike L s M t
    equal_alike = record {
      summary = ap (λ o. without_count (shown_summary (spelling L s) o)) is ∙ ap (λ y. Ok (uncounted y)) (same_summaries r q equal) ∙ sym (ap (λ o. without_count (shown_summary (spelling M t) o)) is');
      trailing = ap trailing_of is ∙ equal.trailing ∙ sym (ap trailing_of is');
      fields = by_function shown_fields shown_fields refl (λ f p p' _ _ k. ap Ok (fields_equal p p' k));
      source_bytes = by_function (λ a. source_shown s (shown_fields a)) (λ a. source_shown t (shown_fields a)) refl
          (λ f p p' e e' k. option_shown_lem s p.source_name ((shows L s r is).function f p e).source_bytes ∙ ap option_of k.source_name ∙ sym (option_shown_lem t p'.source_name ((shows M t q is').function f p' e').source_bytes));
      instruction = λ f i. by_function (λ a. shown_word (entry_in (λ p. p.instructions) i a)) (λ a. shown_word (entry_in (λ p. p.instructions) i a)) refl (λ f p p' _ _ k. ap (λ l. shown_word (or_refuse NoEntry (get_elem? l i))) k.instructions) f;
      constant = λ f i. by_function (λ a. shown_constant (entry_in (λ p. p.constants) i a)) (λ a. shown_constant (entry_in (λ p. p.constants) i a)) refl (λ f p p' _ _ k. ap (λ l. shown_constant (or_refuse NoEntry (get_elem? l i))) k.constants) f;
      constant_bytes = λ f i. by_function (λ a. constant_shown s (shown_constant (entry_in (λ p. p.constants) i a))) (λ a. constant_shown t (shown_constant (entry_in (λ p. p.constants) i a))) refl
          (λ f p p' e e' k. value-shown s (get_elem? p.constants i) (((shows L s r is).function f p e).constant_bytes i) ∙ ap (λ l. value_of (get_elem? l i)) k.constants ∙ sym (value-shown t (get_elem? p'.constants i) (((shows M t q is').function f p' e').constant_bytes i))) f;
      upvalue = λ f i. by_function (λ a. shown_upvalue (entry_in (λ p. p.upvalues) i a)) (λ a. shown_upvalue (entry_in (λ p. p.upvalues) i a)) refl (λ f p p' _ _ k. ap (λ l. shown_upvalue (or_refuse NoEntry (get_elem? l i))) k.upvalues) f;
      delta = λ f i. by_function (λ a. shown_delta (entry_in (λ p. p.line_info_lem) i a)) (λ a. shown_delta (entry_in (λ p. p.line_info_lem) i a)) refl (λ f p p' _ _ k. ap (λ l. shown_delta (or_refuse NoEntry (get_elem? l i))) k.line_info_lem) f;
      anchor = λ f i. by_function (λ a. shown_anchor (entry_in (λ p. p.abs_line_info) i a)) (λ a. shown_anchor (entry_in (λ p. p.abs_line_info) i a)) refl (λ f p p' _ _ k. ap (λ l. shown_anchor (or_refuse NoEntry (get_elem? l i))) k.abs_line_info) f;
      upvalue_name = λ f i. by_function (λ a. shown_name (entry_in (λ p. p.upvalue_names_lem) i a)) (λ a. shown_name (entry_in (λ p. p.upvalue_names_lem) i a)) refl (λ f p p' _ _ k. ap (λ l. shown_name (or_refuse NoEntry (get_elem? l i))) k.upvalue_names_lem) f;
      upvalue_name_bytes = λ f i. by_function (λ a. name_shown s (shown_name (entry_in (λ p. p.upvalue_names_lem) i a))) (λ a. name_shown t (shown_name (entry_in (λ p. p.upvalue_names_lem) i a))) refl
          (λ f p p' e e' k. name_shown_lem s (get_elem? p.upvalue_names_lem i) (((shows L s r is).function f p e).upvalue_name_bytes i) ∙ ap (λ l. name_of (get_elem? l i)) k.upvalue_names_lem ∙ sym (name_shown_lem t (get_elem? p'.upvalue_names_lem i) (((shows M t q is').function f p' e').upvalue_name_bytes i))) f;
      local = λ f i old. by_function (λ a. shown_local (length old) (entry_in (λ p. p.loc_vars) i a)) (λ a. shown_local (length old) (entry_in (λ p. p.loc_vars) i a)) refl
          (λ f p p' _ _ k. locals_shown (length old) (get_elem? p.loc_vars i) (get_elem? p'.loc_vars i) (entries_of SameLocal p.loc_vars p'.loc_vars k.loc_vars i)) f;
      local_name = λ f i old. by_function (λ a. name_written old (entry_in (λ p. p.loc_vars) i a)) (λ a. name_written old (entry_in (λ p. p.loc_vars) i a)) refl
          (λ f p p' _ _ k. locals_written old (get_elem? p.loc_vars i) (get_elem? p'.loc_vars i) (entries_of SameLocal p.loc_vars p'.loc_vars k.loc_vars i)) f;
    }

  pub alike_exactly : AnswerAlike L s M t ↔ EqualAsShown r q
  alike_exactly = (alike_equal, equal_alike)

-- ## The index
index_back : (ps qs : List Prototype) → index ps ≡ index qs → Pairwise SamePlaces ps qs
index_back [] [] e = tt
index_back [] (q ∷ qs) e = let z : ◌≡◌ {A = ℕ} 0 1 = cc in absurd (omega arith)
index_back (p ∷ ps) [] e = let z : ◌≡◌ {A = ℕ} 0 1 = cc in absurd (omega arith)
index_back (p ∷ ps) (q ∷ qs) e = (record { start = cc; end = cc; instructions_at = cc; constants_at = cc }, index_back ps qs (cc))

pub index_alike : (L M : ResourceLimits) (s t : Bytes) (r q : Reading) → read L s ≡ shown r → read M t ≡ shown q → IndexAlike L s M t → Pairwise SamePlaces r.functions q.functions
index_alike L M s t r q is is' alike = index_back r.functions q.functions (go (le-leb (length x) (length old) (omega (arith, length-append x y))) (le-leb (length y) (length old) (omega (arith, length-append x y)))
    (sym (ap (shown_index (length old)) is) ∙ alike.answer old ∙ ap (shown_index (length old)) is') (sym (ap (index_written old) is) ∙ alike.rows old ∙ ap (index_written old) is'))
  where
    x : List ℕ
    x = index r.functions

    y : List ℕ
    y = index q.functions

    old : List ℕ
    old = x ++ y

    go : leb (length x) (length old) ≡ true → leb (length y) (length old) ≡ true → shown_index (length old) (shown r) ≡ shown_index (length old) (shown q) → index_written old (shown r) ≡ index_written old (shown q) → x ≡ y
    go one two e f =
        let said : Ok (length r.functions) ≡ Ok (length q.functions) = rw (one, two) at e in
        let wrote : x ++ drop (length x) old ≡ y ++ drop (length y) old = rw (one, two) at f in
        front_same x y old (let many : length r.functions ≡ length q.functions = cc in omega (arith, index-length r.functions, index-length q.functions)) wrote

-- ## The chunk is bytes
pub record Summarised (L : ResourceLimits) (chunk : Bytes) (r : Result ChunkSummary Refusal) : Type 0 where
  pub below : Below 256 chunk
  pub answers : r ≡ shown_summary (spelling L chunk) (read L chunk)

pub summary_met : {M : Type 1} {𝓤 : Ura M} (𝓛 : Logic 𝓤) (𝓜 : Model 𝓤 𝓛.H) (𝓡 : Running 𝓤 𝓛.H 𝓜) → Wired 𝓡.env symbol.code
    → Meets 𝓛 call.signature (𝓡.run (𝓡.env symbol.name)) (λ κs a. record {
      ghost = Unit {0};
      requires = λ _. emp 𝓤;
      ensures = λ _ r. exits 𝓛 call.signature (call.ended).kept κs a (λ _. fact 𝓤 (Summarised a.1.0 a.0.now r));
    })
summary_met {𝓤 = 𝓤} 𝓛 𝓜 𝓡 wired =
    bytes_known 𝓛 𝓜 𝓡 (𝓡.env symbol.name) 0 [] _ _ (call.ended).kept (call.clauses 𝓛 𝓜.mem 𝓡.returns) (λ κs a _ r _. fact 𝓤 (Summarised a.1.0 a.0.now r))
    (λ κs a _ r _ below. fact_mono 𝓤 _ _ (λ answers. record { below = below; answers = answers })) (theorem.met 𝓤 𝓛 𝓜 𝓡 wired)
