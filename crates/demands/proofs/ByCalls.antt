-- DEMAND 3 of the calls themselves: each theorem is a promise of the call, as its source is compiled
-- (Promise.antt), and no reader stands in it: who believes it has read the grammar, the reading, what is shown of it,
-- and what is set aside (Same.antt), and need not read the reader.
--     reads_exactly        "A script is read exactly when its bytes belong, under the limits, to the chunk grammar":
--                          `chunk_summary` answers with a summary exactly where they do
--     summary_shown_lem ..     "what is shown is its reading by that grammar": the summary, a function's fields, each
--                          entry of it, the trailing bytes; and where there is nothing to show, the refusal: 23, 24,
--                          26 with lent memory as it was, and of a script that does not belong always one (which:
--                          demand 1; `trailing_bytes` has none, and shows no bytes then)
--     string-shown         a string's bytes, by the place and length that are shown of it
--     written_read         "Its archive copy is read again with the same reading": what `encode_chunk_lua54` writes
--                          belongs, with the same reading but for what the demand sets aside
--     written-copy         and it is the copy of the reading, of which Demand3.antt has the rest: copy-of-copy,
--                          equal_copies
-- Assumes nothing.
use Rattle.std.specs.Prelude.{Result, Ok, Err}
use Rattle.show_chunk.specs.declared.fields.FunctionFields.{FunctionFields}
use Rattle.show_local.specs.declared.LocalShown as declared_local
use mathlib.Core.Path.{◌≡◌, refl, sym, ◌∙◌, ap, subst}
use mathlib.Core.Logic.{◌↔◌}
use mathlib.Core.List.{List, [], ◌∷◌, ◌++◌}
use mathlib.Core.Option.{none, some}
use Prim.Native.Nat.{ℕ, ◌≤◌, ◌<◌}
use lib.ListN.{length, take, drop, get_elem?}
use mir.Syntax.{w8}
use mir.Val.{to_z}
use contract.Monad.{fact, fact_mono}
use Rattle.format.specs.declared.limits.ResourceLimits.{ResourceLimits}
use Rattle.format.specs.declared.refusal.Refusal.{Refusal}
use Rattle.format.specs.declared.refusal.Refusal.TheVariants.{NoFunction, NoEntry, LentSpace}
use Rattle.format.specs.Form.{Bytes}
use Rattle.format.specs.GrammarFields.{LuaString}
use Rattle.format.specs.Reading.{Reading, Prototype, short_string, long_string, LocalVar}
use Rattle.format.specs.ReadChunk.{Outcome, shown, refusal, read}
use Rattle.format.specs.Copy.{copy}
use Rattle.format.proofs.ReadChunkLaws.{read_complete}
use Rattle.format.proofs.Located.{Stands, StandsIf}
use Rattle.show_row.specs.Asked.{Asked, found, refused, or_refuse, function_of, entry_in, entry_of}
use Rattle.show_chunk.specs.declared.summary.ChunkSummary.{ChunkSummary}
use Rattle.show_entry.specs.Entries.{shown_word, shown_constant, shown_upvalue, shown_delta, shown_anchor, shown_name}
use Rattle.read_field.specs.Shown.{option_string}
use Rattle.read_entry.specs.Shown.{constant_value}
use Rattle.read_chunk.specs.Decoded.{summary_of}
use Rattle.show_chunk.specs.Fields.{fields_of}
use Rattle.show_chunk.specs.contracts.summary.chunk_summary as summary-contract
use Rattle.show_chunk.proofs.summary.chunk_summary as summary-call
use Rattle.show_chunk.specs.contracts.fields.function_fields as fields-contract
use Rattle.show_chunk.proofs.fields.function_fields as fields-call
use Rattle.show_chunk.specs.contracts.bytes.trailing_bytes as trailing-contract
use Rattle.show_chunk.proofs.bytes.trailing_bytes as trailing-call
use Rattle.show_chunk.specs.contracts.bytes.string_bytes as string-contract
use Rattle.show_chunk.proofs.bytes.string_bytes as string-call
use Rattle.show_local.specs.contracts.local as local-contract
use Rattle.show_local.proofs.local as local-call
use Rattle.show_entry.specs.contracts.instruction as instruction-contract
use Rattle.show_entry.proofs.instruction as instruction-call
use Rattle.show_entry.specs.contracts.constant as constant-contract
use Rattle.show_entry.proofs.constant as constant-call
use Rattle.show_entry.specs.contracts.upvalue as upvalue-contract
use Rattle.show_entry.proofs.upvalue as upvalue-call
use Rattle.show_entry.specs.contracts.delta as delta-contract
use Rattle.show_entry.proofs.delta as delta-call
use Rattle.show_entry.specs.contracts.anchor as anchor-contract
use Rattle.show_entry.proofs.anchor as anchor-call
use Rattle.show_entry.specs.contracts.upvalue_name as upvalue-name-contract
use Rattle.show_entry.proofs.upvalue_name as upvalue-name-call
use Rattle.copy.specs.contracts.encode_chunk_lua54 as copy-contract
use Rattle.copy.proofs.encode_chunk_lua54 as copy-call
use Rattle.demands.proofs.Promise.{Promise}
use Rattle.demands.proofs.Slices.{bytes_known}
use Rattle.demands.proofs.Written.{both}
use Rattle.demands.proofs.Same.{SameButFor}
use Rattle.demands.proofs.Calls.{Shows, entry_is, Refuses, refuses}
use Rattle.demands.proofs.Demand3.{Belongs, read_exactly, summary_exactly, shown-is_the_reading, written-is-read}

-- ## What an answer says, by cases
-- it answers with a summary
abbrev pub Answers : Result ChunkSummary Refusal → Type 0
Answers r = (x : ChunkSummary) × (r ≡ Ok x)

-- whatever the count of padded numbers is, which is no part of the reading (02, item 1)
pub record SummaryShown (L : ResourceLimits) (chunk : Bytes) (r : Result ChunkSummary Refusal) : Type 0 where
  pub given : (b : Belongs L chunk) → (n : ℕ) × (r ≡ Ok (record { summary = summary_of b.reading; padded_numbers = n }))
  pub else : ¬ Belongs L chunk → (q : Refusal) × (r ≡ Err q)

-- of a script that does not belong none are shown: the call has no refusal, `chunk_summary` has it
pub record TrailingShown (L : ResourceLimits) (chunk bytes : Bytes) : Type 0 where
  pub given : (b : Belongs L chunk) → bytes ≡ b.reading.trailing
  pub else : ¬ Belongs L chunk → bytes ≡ []

pub record FieldsShown (L : ResourceLimits) (chunk : Bytes) (f : ℕ) (r : Result FunctionFields Refusal) : Type 0 where
  pub given : (b : Belongs L chunk) (p : Prototype) → get_elem? b.reading.functions f ≡ some p
      → r ≡ Ok (fields_of p)
  pub no_function_lem : (b : Belongs L chunk) → get_elem? b.reading.functions f ≡ none → r ≡ Err NoFunction
  pub else : ¬ Belongs L chunk → (q : Refusal) × (r ≡ Err q)

-- entry i of a list of function f: `ok` of it, or `err` of a refusal
pub record EntryShown {E X : Type 0} (list : Prototype → List E) (ok : E → X) (err : Refusal → X) (L : ResourceLimits) (chunk : Bytes) (f i : ℕ) (r : X) : Type 0 where
  pub given : (b : Belongs L chunk) (p : Prototype) → get_elem? b.reading.functions f ≡ some p → (x : E)
      → get_elem? (list p) i ≡ some x → r ≡ ok x
  pub no_entry_lem : (b : Belongs L chunk) (p : Prototype) → get_elem? b.reading.functions f ≡ some p
      → get_elem? (list p) i ≡ none → r ≡ err NoEntry
  pub no_function_lem : (b : Belongs L chunk) → get_elem? b.reading.functions f ≡ none → r ≡ err NoFunction
  pub else : ¬ Belongs L chunk → (q : Refusal) × (r ≡ err q)

-- a local variable: its name in lent memory that held `old` and then holds `new`
pub record LocalShown (L : ResourceLimits) (chunk : Bytes) (f i : ℕ) (old new : Bytes) (r : Result declared_local.LocalShown Refusal) : Type 0 where
  pub given : (b : Belongs L chunk) (p : Prototype) → get_elem? b.reading.functions f ≡ some p → (l : LocalVar)
      → get_elem? p.loc_vars i ≡ some l → length l.name.bytes ≤ length old
      → (r ≡ Ok (record { name_len = (length l.name.bytes); startpc = l.startpc; endpc = l.endpc })) × (new ≡ l.name.bytes ++ drop (length l.name.bytes) old)
  pub too_long : (b : Belongs L chunk) (p : Prototype) → get_elem? b.reading.functions f ≡ some p → (l : LocalVar)
      → get_elem? p.loc_vars i ≡ some l → length old < length l.name.bytes
      → (r ≡ Err LentSpace) × (new ≡ old)
  pub no_entry_lem : (b : Belongs L chunk) (p : Prototype) → get_elem? b.reading.functions f ≡ some p
      → get_elem? p.loc_vars i ≡ none → (r ≡ Err NoEntry) × (new ≡ old)
  pub no_function_lem : (b : Belongs L chunk) → get_elem? b.reading.functions f ≡ none
      → (r ≡ Err NoFunction) × (new ≡ old)
  pub else : ¬ Belongs L chunk → (q : Refusal) × ((r ≡ Err q) × (new ≡ old))

-- a string of function f, asked for by its place and the length of its bytes
pub record StringShown (chunk : Bytes) (place len : ℕ) (bytes : Bytes) : Type 0 where
  pub source : (L : ResourceLimits) (b : Belongs L chunk) (f : ℕ) (p : Prototype)
      → get_elem? b.reading.functions f ≡ some p → (t : LuaString) → p.source_name ≡ some t
      → place ≡ t.place → len ≡ length t.bytes → bytes ≡ t.bytes
  pub short_constant : (L : ResourceLimits) (b : Belongs L chunk) (f : ℕ) (p : Prototype)
      → get_elem? b.reading.functions f ≡ some p → (i : ℕ) (t : LuaString)
      → get_elem? p.constants i ≡ some (short_string t)
      → place ≡ t.place → len ≡ length t.bytes → bytes ≡ t.bytes
  pub long_constant : (L : ResourceLimits) (b : Belongs L chunk) (f : ℕ) (p : Prototype)
      → get_elem? b.reading.functions f ≡ some p → (i : ℕ) (t : LuaString)
      → get_elem? p.constants i ≡ some (long_string t)
      → place ≡ t.place → len ≡ length t.bytes → bytes ≡ t.bytes
  pub upvalue_name : (L : ResourceLimits) (b : Belongs L chunk) (f : ℕ) (p : Prototype)
      → get_elem? b.reading.functions f ≡ some p → (i : ℕ) (t : LuaString)
      → get_elem? p.upvalue_names_lem i ≡ some (some t)
      → place ≡ t.place → len ≡ length t.bytes → bytes ≡ t.bytes

-- the archive copy, in lent memory that held `old` and then holds `new`
pub record CopyShown (L : ResourceLimits) (chunk old new : Bytes) (r : Result ℕ Refusal) : Type 0 where
  pub given : (b : Belongs L chunk) → length (copy b.reading) ≤ length old
      → (r ≡ Ok (length (copy b.reading))) × (new ≡ copy b.reading ++ drop (length (copy b.reading)) old)
  pub too_long : (b : Belongs L chunk) → length old < length (copy b.reading)
      → (r ≡ Err LentSpace) × (new ≡ old)
  pub else : ¬ Belongs L chunk → (q : Refusal) × ((r ≡ Err q) × (new ≡ old))

-- ## From the contracts, by the laws of demand 3
module _ (L : ResourceLimits) (chunk : Bytes) where
  is_read : (b : Belongs L chunk) → read L chunk ≡ shown b.reading
  is_read b = read_complete L chunk b.reading b.ceilings b.input b.is

  -- all that the calls then answer
  shows : (b : Belongs L chunk) → Shows L chunk b.reading
  shows b = shown-is_the_reading L chunk b

  unread : ¬ Belongs L chunk → (q : Refusal) × (read L chunk ≡ refusal q)
  unread out = from (read L chunk) refl
    where
      from : (o : Outcome) → read L chunk ≡ o → (q : Refusal) × (read L chunk ≡ refusal q)
      from (shown r) is = absurd (out ((read_exactly L chunk).0 (record { reading = r; is = is })))
      from (refusal q) is = (q, is)

  refusing : (out : ¬ Belongs L chunk) → Refuses L chunk (unread out).0
  refusing out = let u = unread out in refuses L chunk u.0 u.1

  entry_shown : {E X : Type 0} (list : Prototype → List E) (ok : E → X) (err : Refusal → X) (answer : Asked E → X)
      → ((x : E) → answer (found x) ≡ ok x) → ((q : Refusal) → answer (refused q) ≡ err q)
      → (f i : ℕ) (r : X) → r ≡ answer (entry_of list f i (read L chunk)) → EntryShown list ok err L chunk f i r
  entry_shown list ok err answer on off f i r is = record {
    given =
        λ b p there x here. is ∙ ap answer (entry_is L chunk b.reading (is_read b) f p there list i ∙ ap (or_refuse NoEntry) here) ∙ on x;
    no_entry_lem =
        λ b p there lacks. is ∙ ap answer (entry_is L chunk b.reading (is_read b) f p there list i ∙ ap (or_refuse NoEntry) lacks) ∙ off NoEntry;
    no_function_lem =
        λ b lacks. is ∙ ap (λ a. answer (entry_in list i a)) (ap (function_of f) (is_read b) ∙ ap (or_refuse NoFunction) lacks) ∙ off NoFunction;
    else = λ out. let u = unread out in (u.0, is ∙ ap (λ o. answer (entry_of list f i o)) u.1 ∙ off u.0);
  }

-- the bytes of a string that stands in the chunk
strung : (chunk : Bytes) (place len : ℕ) (bytes : Bytes) → bytes ≡ take len (drop place chunk) → (t : LuaString)
    → Stands chunk t → place ≡ t.place → len ≡ length t.bytes → bytes ≡ t.bytes
strung chunk place len bytes is t stands at long =
    is ∙ ap (λ n. take n (drop place chunk)) long ∙ ap (λ n. take (length t.bytes) (drop n chunk)) at ∙ stands.there

string_told : (chunk : Bytes) (place len : ℕ) (bytes : Bytes) → bytes ≡ take len (drop place chunk)
    → StringShown chunk place len bytes
string_told chunk place len bytes is = record {
  source =
      λ L b f p there t here. strung chunk place len bytes is t (subst (StandsIf chunk) here ((shows L chunk b).function f p there).source_bytes);
  short_constant =
      λ L b f p there i t here. strung chunk place len bytes is t (((shows L chunk b).function f p there).constant_bytes i (short_string t) here);
  long_constant =
      λ L b f p there i t here. strung chunk place len bytes is t (((shows L chunk b).function f p there).constant_bytes i (long_string t) here);
  upvalue_name =
      λ L b f p there i t here. strung chunk place len bytes is t (((shows L chunk b).function f p there).upvalue_name_bytes i (some t) here);
}

-- ## Read exactly when it belongs
pub reads_exactly : Promise summary-contract.ended summary-call.Symbol.code summary-call.Symbol.name (λ _ chunk limits r.
    (Answers r ↔ Belongs limits chunk.now)
    ∷ [])
reads_exactly M 𝓤 𝓛 𝓜 𝓡 wired =
    bytes_known 𝓛 𝓜 𝓡 (𝓡.env summary-call.Symbol.name) 0 [] _ _ (summary-contract.ended).kept (summary-contract.clauses 𝓛 𝓜.mem 𝓡.returns) (λ κs a _ r _. fact 𝓤 (Answers r ↔ Belongs a.1.0 a.0.now))
    (λ κs a _ r _ below. fact_mono 𝓤 _ _ (λ answers. (
      λ g. (summary_exactly a.1.0 a.0.now).0 (record { summary = g.0; answers = sym answers ∙ g.1 }),
      λ b. (let g = (summary_exactly a.1.0 a.0.now).1 b in (g.summary, answers ∙ g.answers)),
    ))) (summary-call.Met.met 𝓤 𝓛 𝓜 𝓡 wired)

-- ## What is shown is its reading
pub summary_shown_lem : Promise summary-contract.ended summary-call.Symbol.code summary-call.Symbol.name (λ _ chunk limits r.
    SummaryShown limits chunk.now r
    ∷ [])
summary_shown_lem M 𝓤 𝓛 𝓜 𝓡 wired =
    bytes_known 𝓛 𝓜 𝓡 (𝓡.env summary-call.Symbol.name) 0 [] _ _ (summary-contract.ended).kept (summary-contract.clauses 𝓛 𝓜.mem 𝓡.returns)
    (λ κs a _ r _. fact 𝓤 (SummaryShown a.1.0 a.0.now r))
    (λ κs a _ r _ below. fact_mono 𝓤 _ _ (λ is. record {
      given = λ b. (_, is ∙ (shows a.1.0 a.0.now b).summary);
      else = λ out. (_, is ∙ (refusing a.1.0 a.0.now out).summary);
    })) (summary-call.Met.met 𝓤 𝓛 𝓜 𝓡 wired)

pub trailing-shown : Promise trailing-contract.ended trailing-call.Symbol.code trailing-call.Symbol.name (λ _ chunk limits r.
    TrailingShown limits chunk.now r.now
    ∷ [])
trailing-shown M 𝓤 𝓛 𝓜 𝓡 wired =
    bytes_known 𝓛 𝓜 𝓡 (𝓡.env trailing-call.Symbol.name) 0 [] _ _ (trailing-contract.ended).kept (trailing-contract.clauses 𝓛 𝓜.mem 𝓡.returns)
    (λ κs a _ r _. fact 𝓤 (TrailingShown a.1.0 a.0.now r.now))
    (λ κs a _ r _ below. fact_mono 𝓤 _ _ (λ is. record {
      given = λ b. is ∙ (shows a.1.0 a.0.now b).trailing;
      else = λ out. is ∙ (refusing a.1.0 a.0.now out).trailing;
    })) (trailing-call.Met.met 𝓤 𝓛 𝓜 𝓡 wired)

pub string-shown : Promise string-contract.ended string-call.Symbol.code string-call.Symbol.name (λ _ chunk place len r.
    StringShown chunk.now place len r.now
    ∷ [])
string-shown M 𝓤 𝓛 𝓜 𝓡 wired =
    bytes_known 𝓛 𝓜 𝓡 (𝓡.env string-call.Symbol.name) 0 [] _ _ (string-contract.ended).kept (string-contract.clauses 𝓛 𝓜.mem 𝓡.returns)
    (λ κs a _ r _. fact 𝓤 (StringShown a.0.now a.1.0 a.1.1.0 r.now))
    (λ κs a _ r _ below. fact_mono 𝓤 _ _ (string_told a.0.now a.1.0 a.1.1.0 r.now)) (string-call.Met.met 𝓤 𝓛 𝓜 𝓡 wired)

pub fields_shown_lem : Promise fields-contract.ended fields-call.Symbol.code fields-call.Symbol.name (λ _ chunk limits function r.
    FieldsShown limits chunk.now function r
    ∷ [])
fields_shown_lem M 𝓤 𝓛 𝓜 𝓡 wired =
    bytes_known 𝓛 𝓜 𝓡 (𝓡.env fields-call.Symbol.name) 0 [] _ _ (fields-contract.ended).kept (fields-contract.clauses 𝓛 𝓜.mem 𝓡.returns)
    (λ κs a _ r _. fact 𝓤 (FieldsShown a.1.0 a.0.now a.1.1.0 r))
    (λ κs a _ r _ below. fact_mono 𝓤 _ _ (λ is. record {
      given = λ b p there. is ∙ ((shows a.1.0 a.0.now b).function a.1.1.0 p there).fields;
      no_function_lem = λ b lacks. is ∙ ((shows a.1.0 a.0.now b).no_function_lem a.1.1.0 lacks).fields;
      else = λ out. (_, is ∙ ((refusing a.1.0 a.0.now out).function a.1.1.0).fields);
    })) (fields-call.Met.met 𝓤 𝓛 𝓜 𝓡 wired)

pub instruction-shown : Promise instruction-contract.ended instruction-call.Symbol.code instruction-call.Symbol.name (λ _ chunk limits function entry r.
    EntryShown (λ p. p.instructions) Ok Err limits chunk.now function entry r
    ∷ [])
instruction-shown M 𝓤 𝓛 𝓜 𝓡 wired =
    bytes_known 𝓛 𝓜 𝓡 (𝓡.env instruction-call.Symbol.name) 0 [] _ _ (instruction-contract.ended).kept (instruction-contract.clauses 𝓛 𝓜.mem 𝓡.returns)
    (λ κs a _ r _. fact 𝓤 (EntryShown (λ p. p.instructions) Ok Err a.1.0 a.0.now a.1.1.0 a.1.1.1.0 r))
    (λ κs a _ r _ below. fact_mono 𝓤 _ _ (entry_shown a.1.0 a.0.now (λ p. p.instructions) Ok Err shown_word (λ x. refl) (λ q. refl) a.1.1.0 a.1.1.1.0 r)) (instruction-call.Met.met 𝓤 𝓛 𝓜 𝓡 wired)

pub constant-shown : Promise constant-contract.ended constant-call.Symbol.code constant-call.Symbol.name (λ _ chunk limits function entry r.
    EntryShown (λ p. p.constants) (λ k. Ok (constant_value k)) Err limits chunk.now function entry r
    ∷ [])
constant-shown M 𝓤 𝓛 𝓜 𝓡 wired =
    bytes_known 𝓛 𝓜 𝓡 (𝓡.env constant-call.Symbol.name) 0 [] _ _ (constant-contract.ended).kept (constant-contract.clauses 𝓛 𝓜.mem 𝓡.returns)
    (λ κs a _ r _. fact 𝓤 (EntryShown (λ p. p.constants) (λ k. Ok (constant_value k)) Err a.1.0 a.0.now a.1.1.0 a.1.1.1.0 r))
    (λ κs a _ r _ below. fact_mono 𝓤 _ _ (entry_shown a.1.0 a.0.now (λ p. p.constants) (λ k. Ok (constant_value k)) Err shown_constant (λ x. refl) (λ q. refl) a.1.1.0 a.1.1.1.0 r)) (constant-call.Met.met 𝓤 𝓛 𝓜 𝓡 wired)

pub upvalue-shown : Promise upvalue-contract.ended upvalue-call.Symbol.code upvalue-call.Symbol.name (λ _ chunk limits function entry r.
    EntryShown (λ p. p.upvalues) Ok Err limits chunk.now function entry r
    ∷ [])
upvalue-shown M 𝓤 𝓛 𝓜 𝓡 wired =
    bytes_known 𝓛 𝓜 𝓡 (𝓡.env upvalue-call.Symbol.name) 0 [] _ _ (upvalue-contract.ended).kept (upvalue-contract.clauses 𝓛 𝓜.mem 𝓡.returns)
    (λ κs a _ r _. fact 𝓤 (EntryShown (λ p. p.upvalues) Ok Err a.1.0 a.0.now a.1.1.0 a.1.1.1.0 r))
    (λ κs a _ r _ below. fact_mono 𝓤 _ _ (entry_shown a.1.0 a.0.now (λ p. p.upvalues) Ok Err shown_upvalue (λ x. refl) (λ q. refl) a.1.1.0 a.1.1.1.0 r)) (upvalue-call.Met.met 𝓤 𝓛 𝓜 𝓡 wired)

-- a byte as a signed number
pub delta_shown : Promise delta-contract.ended delta-call.Symbol.code delta-call.Symbol.name (λ _ chunk limits function entry r.
    EntryShown (λ p. p.line_info_lem) (λ x. Ok (to_z w8 x)) Err limits chunk.now function entry r
    ∷ [])
delta_shown M 𝓤 𝓛 𝓜 𝓡 wired =
    bytes_known 𝓛 𝓜 𝓡 (𝓡.env delta-call.Symbol.name) 0 [] _ _ (delta-contract.ended).kept (delta-contract.clauses 𝓛 𝓜.mem 𝓡.returns)
    (λ κs a _ r _. fact 𝓤 (EntryShown (λ p. p.line_info_lem) (λ x. Ok (to_z w8 x)) Err a.1.0 a.0.now a.1.1.0 a.1.1.1.0 r))
    (λ κs a _ r _ below. fact_mono 𝓤 _ _ (entry_shown a.1.0 a.0.now (λ p. p.line_info_lem) (λ x. Ok (to_z w8 x)) Err shown_delta (λ x. refl) (λ q. refl) a.1.1.0 a.1.1.1.0 r)) (delta-call.Met.met 𝓤 𝓛 𝓜 𝓡 wired)

pub anchor-shown : Promise anchor-contract.ended anchor-call.Symbol.code anchor-call.Symbol.name (λ _ chunk limits function entry r.
    EntryShown (λ p. p.abs_line_info) Ok Err limits chunk.now function entry r
    ∷ [])
anchor-shown M 𝓤 𝓛 𝓜 𝓡 wired =
    bytes_known 𝓛 𝓜 𝓡 (𝓡.env anchor-call.Symbol.name) 0 [] _ _ (anchor-contract.ended).kept (anchor-contract.clauses 𝓛 𝓜.mem 𝓡.returns)
    (λ κs a _ r _. fact 𝓤 (EntryShown (λ p. p.abs_line_info) Ok Err a.1.0 a.0.now a.1.1.0 a.1.1.1.0 r))
    (λ κs a _ r _ below. fact_mono 𝓤 _ _ (entry_shown a.1.0 a.0.now (λ p. p.abs_line_info) Ok Err shown_anchor (λ x. refl) (λ q. refl) a.1.1.0 a.1.1.1.0 r)) (anchor-call.Met.met 𝓤 𝓛 𝓜 𝓡 wired)

pub upvalue-name-shown : Promise upvalue-name-contract.ended upvalue-name-call.Symbol.code upvalue-name-call.Symbol.name (λ _ chunk limits function entry r.
    EntryShown (λ p. p.upvalue_names_lem) (λ t. Ok (option_string t)) Err limits chunk.now function entry r
    ∷ [])
upvalue-name-shown M 𝓤 𝓛 𝓜 𝓡 wired =
    bytes_known 𝓛 𝓜 𝓡 (𝓡.env upvalue-name-call.Symbol.name) 0 [] _ _ (upvalue-name-contract.ended).kept (upvalue-name-contract.clauses 𝓛 𝓜.mem 𝓡.returns)
    (λ κs a _ r _. fact 𝓤 (EntryShown (λ p. p.upvalue_names_lem) (λ t. Ok (option_string t)) Err a.1.0 a.0.now a.1.1.0 a.1.1.1.0 r))
    (λ κs a _ r _ below. fact_mono 𝓤 _ _ (entry_shown a.1.0 a.0.now (λ p. p.upvalue_names_lem) (λ t. Ok (option_string t)) Err shown_name (λ x. refl) (λ q. refl) a.1.1.0 a.1.1.1.0 r)) (upvalue-name-call.Met.met 𝓤 𝓛 𝓜 𝓡 wired)

pub local-shown : Promise local-contract.ended local-call.Symbol.code local-call.Symbol.name (λ _ chunk limits function entry name name' r.
    LocalShown limits chunk.now function entry name.now name'.now r
    ∷ [])
local-shown M 𝓤 𝓛 𝓜 𝓡 wired =
    bytes_known 𝓛 𝓜 𝓡 (𝓡.env local-call.Symbol.name) 1 [] _ _ (local-contract.ended).kept (local-contract.clauses 𝓛 𝓜.mem 𝓡.returns)
    (λ κs a _ r end. fact 𝓤 (LocalShown a.1.0 a.0.now a.1.1.0 a.1.1.1.0 a.1.1.1.1.0.now end.1.1.1.1.0.now r))
    (λ κs a _ r end below. both 𝓤 _ _ _ (λ is leaves.
    let old = a.1.1.1.1.0.now in
    record {
      given = λ b p there l here room. (let x = ((shows a.1.0 a.0.now b).function a.1.1.0 p there).local a.1.1.1.0 l here old room in (is ∙ x.0, leaves ∙ x.1));
      too_long = λ b p there l here short. (let x = ((shows a.1.0 a.0.now b).function a.1.1.0 p there).local_too_long a.1.1.1.0 l here old short in (is ∙ x.0, leaves ∙ x.1));
      no_entry_lem = λ b p there lacks. (let x = ((shows a.1.0 a.0.now b).function a.1.1.0 p there).no_local a.1.1.1.0 lacks old in (is ∙ x.0, leaves ∙ x.1));
      no_function_lem =
          λ b lacks. (let x = ((shows a.1.0 a.0.now b).no_function_lem a.1.1.0 lacks).local a.1.1.1.0 old in (is ∙ x.0, leaves ∙ x.1));
      else =
          λ out. (let x = ((refusing a.1.0 a.0.now out).function a.1.1.0).local a.1.1.1.0 old in (_, (is ∙ x.0, leaves ∙ x.1)));
    }))
    (local-call.Met.met 𝓤 𝓛 𝓜 𝓡 wired)

-- ## The copy
-- bytes that belong, with the same reading but for what the demand sets aside
pub record Again (L : ResourceLimits) (r : Reading) (bytes : Bytes) : Type 0 where
  pub belongs : Belongs L bytes
  pub same : SameButFor belongs.reading r

-- what stands at the front of the lent memory, as much as is answered; the premises are the demand's
pub written_read : Promise copy-contract.ended copy-call.Symbol.code copy-call.Symbol.name (λ _ chunk limits out out' r.
    ((b : Belongs limits chunk.now) (n : ℕ) → r ≡ Ok n → 1 ≤ limits.max_string_bytes → length (take n out'.now) ≤ limits.max_input_bytes → Again limits b.reading (take n out'.now))
    ∷ [])
written_read M 𝓤 𝓛 𝓜 𝓡 wired =
    bytes_known 𝓛 𝓜 𝓡 (𝓡.env copy-call.Symbol.name) 1 [] _ _ (copy-contract.ended).kept (copy-contract.clauses 𝓛 𝓜.mem 𝓡.returns)
    (λ κs a _ r end. fact 𝓤 ((b : Belongs a.1.0 a.0.now) (n : ℕ) → r ≡ Ok n → 1 ≤ a.1.0.max_string_bytes → length (take n end.1.1.0.now) ≤ a.1.0.max_input_bytes → Again a.1.0 b.reading (take n end.1.1.0.now)))
    (λ κs a _ r end below. both 𝓤 _ _ _ (λ answers leaves b n e string input.
    (let x = written-is-read a.1.0 a.0.now a.1.1.0.now (take n end.1.1.0.now) b (record { len = n; new = end.1.1.0.now; call = record { below = below; answers = sym e ∙ answers; leaves = leaves }; bytes = refl }) string input in record { belongs = x.belongs; same = x.same })))
    (copy-call.Met.met 𝓤 𝓛 𝓜 𝓡 wired)

pub written-copy : Promise copy-contract.ended copy-call.Symbol.code copy-call.Symbol.name (λ _ chunk limits out out' r.
    CopyShown limits chunk.now out.now out'.now r
    ∷ [])
written-copy M 𝓤 𝓛 𝓜 𝓡 wired =
    bytes_known 𝓛 𝓜 𝓡 (𝓡.env copy-call.Symbol.name) 1 [] _ _ (copy-contract.ended).kept (copy-contract.clauses 𝓛 𝓜.mem 𝓡.returns)
    (λ κs a _ r end. fact 𝓤 (CopyShown a.1.0 a.0.now a.1.1.0.now end.1.1.0.now r))
    (λ κs a _ r end below. both 𝓤 _ _ _ (λ is leaves.
    let old = a.1.1.0.now in
    record {
      given = λ b room. (let x = (shows a.1.0 a.0.now b).copied old room in (is ∙ x.0, leaves ∙ x.1));
      too_long =
          λ b short. (let x = (shows a.1.0 a.0.now b).copy_too_long old short in (is ∙ x.0, leaves ∙ x.1));
      else = λ out. (let x = (refusing a.1.0 a.0.now out).copied old in (_, (is ∙ x.0, leaves ∙ x.1)));
    }))
    (copy-call.Met.met 𝓤 𝓛 𝓜 𝓡 wired)
