-- REQUEST 6 (02, item 6): keep a nested function's own source. Each sentence of it once, about what the calls show and write.
--     (Demand2.antt)       "A full copy is added beside the archive copy": the promises of `full_copy` and `full_copy_length`; Demand2C.antt: of the two behind C. (Demand1.antt: what they refuse, 26 by the full copy's length,
--                          `full_copied`, and that lent memory is then as it was, `full_kept`.)
--     full_sources         "In it a nested source is absent exactly when its bytes equal the parent's as read, or both are missing, and is written otherwise": of the bytes that `full_copy` writes. None of the nested sources that
--                          they spell is its parent's as read, and with those that they spell every function reads with the source that it had
--     absent_exactly, else_written     the same of the definition that the copy is made by (`nested_source`), of every function that is read, by its parent's number
--     full_is-read         "For full copies the reading keeps every source name": under the premises the full copy is read again, with the same reading but for format byte, warnings and places (`SameInFull`)
--     equal_full_copies    "and two scripts have equal full copies exactly when their readings agree on those as well", each read under limits of its own
--                          "The premises on string and input limits stay": of full_is-read, full_sources and full_written-is-read (of none-repeated and full_unpadded that on strings); the others have none
--     (Demand2.antt)       "The archive copy remains equal to the Rust's": the promise of `encode_chunk_lua54` is as it was, word for word
-- What follows, and is not asked:
--     full_of_full         a full copy of the full copy is the full copy
--     archive_of_full      the archive copy of the full copy is that of the chunk
--     full_unpadded        none of its numbers is padded (02, item 1)
--     none-repeated        none of the nested sources that it spells is its parent's
--     as_lua_dumps_in_full     it is what Lua's own dumper writes, where four things do not part the two (crates/format_lua/proofs/LdumpFull.antt)
-- Refused by full_sources: a copy that writes every source (crates/format_spelling/proofs/SpellingCases.antt has such chunks, with a count of 1 and more), one that leaves out a source that differs.
-- Of what `full_copy` writes (`FullWrites`, Written.antt): full_is-written, full_written-is-read, full_written_again, full_written_once_more, equal_full_written, archive_of_full_written.
-- Assumes nothing.
use Rattle.std.specs.Prelude.{Result, Ok}
use Rattle.format.specs.declared.refusal.Refusal.{Refusal}
use mathlib.Core.Path.{◌≡◌, refl, sym, ◌∙◌, subst}
use mathlib.Core.Logic.{◌↔◌}
use mathlib.Core.Bool.{Bool, true, false, cond}
use mathlib.Core.List.{List, [], ◌∷◌, ◌++◌}
use mathlib.Core.Option.{Option, none}
use Prim.Native.Nat.{ℕ, ◌≤◌}
use lib.ListN.{length, take}
use contract.Monad.{fact}
use Rattle.format.specs.declared.limits.ResourceLimits.{ResourceLimits}
use Rattle.format.specs.Form.{Bytes, All, Below}
use Rattle.format.specs.GrammarFields.{LuaString}
use Rattle.format.specs.Reading.{Prototype, Reading}
use Rattle.format.specs.GrammarChunk.{Chunk}
use Rattle.format.specs.ReadChunk.{shown, read}
use Rattle.format.specs.Copy.{copy}
use Rattle.format.specs.FullCopy.{equal_sources, nested_source, full_copy}
use Rattle.format.proofs.FullSources as sources
use Rattle.format.proofs.ReadChunkLaws.{read_sound, read_complete}
use Rattle.format_spelling.specs.Spelling.{spelling_of, padded_in}
use Rattle.format_copy.proofs.FullChunk.{full_belongs, full_tidy, full_same, full_below}
use Rattle.format_copy.proofs.FullChunk as full
use Rattle.format_lua.specs.LdumpFunctions.{lua_u_dump}
use Rattle.format_lua.proofs.LdumpWhole.{source_of}
use Rattle.format_lua.proofs.LdumpFull.{AsLuaInFull, full_as_dumped}
use Rattle.copy_full.specs.contracts.full_copy as full-copy-contract
use Rattle.copy_full.proofs.full_copy as full-copy-call
use Rattle.demands.proofs.Promise.{Promise}
use Rattle.demands.proofs.Slices.{bytes_known}
use Rattle.demands.proofs.Calls.{Shows}
use Rattle.demands.proofs.Written.{both, FullCopying, Writes, FullWrites, by_reading, written-is_by, writes_by, written-is-copy}
use Rattle.demands.proofs.Same.{SameOption, to_option, from_option}
use Rattle.demands.proofs.SameInFull.{SameInFull, same_in_full}
use Rattle.demands.proofs.Inherits.{Inherited, Nested, all-inherit, missing_above}
use Rattle.demands.proofs.Demand3.{Belongs, read_exactly, shown-is_the_reading, under_any_limits, written_belongs}

-- what the reader gives of a chunk that belongs
given : {L : ResourceLimits} {chunk : Bytes} (b : Belongs L chunk) → read L chunk ≡ shown b.reading
given {L} {chunk} b = read_complete L chunk b.reading b.ceilings b.input b.is

-- ## Nested sources
-- what is written of the source of p, which nests in a function with the source `outer`
pub record AbsentExactly (outer : Option LuaString) (p : Prototype) : Type 0 where
  -- absent: nothing is written of it; the same: their bytes are equal, or both are missing (`SameOption`, Same.antt)
  pub absent : nested_source outer p.source_name ≡ none ↔ SameOption p.source_name outer
  pub else_written : ¬ SameOption p.source_name outer → nested_source outer p.source_name ≡ p.source_name

absent_of : (outer : Option LuaString) (p : Prototype) → Inherited outer p → AbsentExactly outer p
absent_of outer p i =
    let own = p.source_name in
    let law = sources.absent_exactly outer own (missing_above outer p i) in
    record {
      absent = (λ e. to_option own outer (law.0 e), λ h. law.1 (from_option own outer h));
      else_written = λ other. by own other (equal_sources own outer) refl;
    }
  where
    by : (own : Option LuaString) → ¬ SameOption own outer → (b : Bool) → equal_sources own outer ≡ b → cond b none own ≡ own
    by own other true e = absurd (other (to_option own outer (sources.same_source_lem own outer e)))
    by own other false e = refl

all_absent : (source : Prototype → Option LuaString) (ps : List Prototype) → All (λ p. Inherited (source p) p) ps → All (λ p. AbsentExactly (source p) p) ps
all_absent source [] a = tt
all_absent source (p ∷ ps) a = (absent_of (source p) p a.0, all_absent source ps a.1)

pub absent_exactly : (L : ResourceLimits) (chunk : Bytes) (b : Belongs L chunk) → Nested (λ p. AbsentExactly (source_of b.reading.functions p.parent) p) b.reading.functions
absent_exactly L chunk b = by (λ p. source_of b.reading.functions p.parent) b.reading.functions (all-inherit L chunk b.reading b.is)
  where
    by : (source : Prototype → Option LuaString) (fs : List Prototype) → Nested (λ p. Inherited (source p) p) fs → Nested (λ p. AbsentExactly (source p) p) fs
    by source [] a = tt
    by source (p ∷ ps) a = all_absent source ps a

-- ## The full copy is read again
-- bytes that belong, with a reading that is the same as r but for format byte, warnings and places; and it is this reading of them that every call shows
pub record ReadAgainInFull (L : ResourceLimits) (r : Reading) (bytes : Bytes) : Type 0 where
  pub belongs : Belongs L bytes
  pub same : SameInFull belongs.reading r
  pub shows_again : Shows L bytes belongs.reading

-- the premises are demand 3's: a string limit of at least 1, and the full copy within the input limit
pub full_is-read : (L : ResourceLimits) (chunk : Bytes) (b : Belongs L chunk) → Below 256 chunk → 1 ≤ L.max_string_bytes → length (full_copy b.reading) ≤ L.max_input_bytes → ReadAgainInFull L b.reading (full_copy b.reading)
full_is-read L chunk b below string input =
    let c = full_belongs L chunk b.reading b.is below string in
    let again : Belongs L (full_copy b.reading) = record { ceilings = b.ceilings; input = input; reading = c.0; is = c.1 } in
    record { belongs = again; same = (same_in_full L L (full_copy b.reading) chunk c.0 b.reading c.1 b.is).0 c.2; shows_again = shown-is_the_reading L (full_copy b.reading) again }

pub full_unpadded : (L : ResourceLimits) (chunk : Bytes) (b : Belongs L chunk) → Below 256 chunk → 1 ≤ L.max_string_bytes → (again : Belongs L (full_copy b.reading)) → padded_in again.is ≡ 0
full_unpadded L chunk b below string again = (full_tidy L chunk b.reading b.is below string again.reading again.is).0

-- and of its nested sources none is spelt that is its parent's as read: with `full_is-read`, which has every other back, 02's sentence of the bytes themselves
pub none-repeated : (L : ResourceLimits) (chunk : Bytes) (b : Belongs L chunk) → Below 256 chunk → 1 ≤ L.max_string_bytes → (again : Belongs L (full_copy b.reading)) → (spelling_of again.is).repeated ≡ 0
none-repeated L chunk b below string again = (full_tidy L chunk b.reading b.is below string again.reading again.is).2

-- under whatever limits it is read
pub full_of_full : (L M : ResourceLimits) (chunk : Bytes) (b : Belongs L chunk) → Below 256 chunk → (again : Belongs M (full_copy b.reading)) → full_copy again.reading ≡ full_copy b.reading
full_of_full L M chunk b below again = full_same L M chunk b.reading again.reading b.is below again.is

pub archive_of_full : (L M : ResourceLimits) (chunk : Bytes) (b : Belongs L chunk) → Below 256 chunk → (again : Belongs M (full_copy b.reading)) → copy again.reading ≡ copy b.reading
archive_of_full L M chunk b below again = full.archive_of_full L M chunk b.reading again.reading b.is below again.is

-- ## Two scripts, each read under any limits
pub equal_full_copies : (L M : ResourceLimits) (s t : Bytes) (b : Belongs L s) (d : Belongs M t) → Below 256 s → Below 256 t → full_copy b.reading ≡ full_copy d.reading ↔ SameInFull b.reading d.reading
equal_full_copies L M s t b d below below' =
    let one = full.equal_full L M s t b.reading d.reading b.is d.is below below' in
    let two = same_in_full L M s t b.reading d.reading b.is d.is in
    (λ e. two.0 (one.0 e), λ h. one.1 (two.1 h))

-- ## What the call writes
full_written_lem : (L : ResourceLimits) (chunk old written : Bytes) (b : Belongs L chunk) → FullWrites L chunk old written → written ≡ full_copy b.reading
full_written_lem L chunk old written b w = written-is_by L chunk old written w b.reading (given b)

-- after a call on a chunk that belongs, the full copy is written wherever there is room
pub full_is-written : (L : ResourceLimits) (chunk old : Bytes) (r : Result ℕ Refusal) (new : Bytes) → FullCopying L chunk old r new → (b : Belongs L chunk) → length (full_copy b.reading) ≤ length old → FullWrites L chunk old (full_copy b.reading)
full_is-written L chunk old r new k b room = writes_by full_copy L chunk old b.reading k.below (given b) room

-- and it writes of no other
pub full_written_belongs : (L : ResourceLimits) (chunk old written : Bytes) → FullWrites L chunk old written → Belongs L chunk
full_written_belongs L chunk old written w = let k = by_reading L chunk old written w in (read_exactly L chunk).0 (record { reading = k.reading; is = k.is })

pub full_written-is-read : (L : ResourceLimits) (chunk old written : Bytes) (b : Belongs L chunk) → FullWrites L chunk old written → 1 ≤ L.max_string_bytes → length written ≤ L.max_input_bytes → ReadAgainInFull L b.reading written
full_written-is-read L chunk old written b w string input =
    let is = full_written_lem L chunk old written b w in
    rw is (full_is-read L chunk b w.call.below string (rw (← is) input))

-- the same, and none of the nested sources that the bytes spell is its parent's as read
pub record WrittenInFull (L : ResourceLimits) (r : Reading) (bytes : Bytes) : Type 0 where
  pub belongs : Belongs L bytes
  pub same : SameInFull belongs.reading r
  pub unrepeated : (spelling_of belongs.is).repeated ≡ 0

written_in_full : (L : ResourceLimits) (chunk old written : Bytes) (b : Belongs L chunk) → FullWrites L chunk old written → 1 ≤ L.max_string_bytes → length written ≤ L.max_input_bytes → WrittenInFull L b.reading written
written_in_full L chunk old written b w string input =
    let is = full_written_lem L chunk old written b w in
    let again = full_is-read L chunk b w.call.below string (rw (← is) input) in
    let whole : WrittenInFull L b.reading (full_copy b.reading) = record { belongs = again.belongs; same = again.same; unrepeated = none-repeated L chunk b w.call.below string again.belongs } in
    rw is whole

pub full_sources : Promise full-copy-contract.ended full-copy-call.Symbol.code full-copy-call.Symbol.name (λ _ chunk limits out out' r.
    ((b : Belongs limits chunk.now) (n : ℕ) → r ≡ Ok n → 1 ≤ limits.max_string_bytes → length (take n out'.now) ≤ limits.max_input_bytes → WrittenInFull limits b.reading (take n out'.now))
    ∷ [])
full_sources M 𝓤 𝓛 𝓜 𝓡 wired =
    bytes_known 𝓛 𝓜 𝓡 (𝓡.env full-copy-call.Symbol.name) 1 [] _ _ (full-copy-contract.ended).kept (full-copy-contract.clauses 𝓛 𝓜.mem 𝓡.returns)
    (λ κs a _ r end. fact 𝓤 ((b : Belongs a.1.0 a.0.now) (n : ℕ) → r ≡ Ok n → 1 ≤ a.1.0.max_string_bytes → length (take n end.1.1.0.now) ≤ a.1.0.max_input_bytes → WrittenInFull a.1.0 b.reading (take n end.1.1.0.now)))
    (λ κs a _ r end below. both 𝓤 _ _ _ (λ answers leaves b n e string input.
    written_in_full a.1.0 a.0.now a.1.1.0.now (take n end.1.1.0.now) b (record { len = n; new = end.1.1.0.now; call = record { below = below; answers = sym e ∙ answers; leaves = leaves }; bytes = refl }) string input))
    (full-copy-call.Met.met 𝓤 𝓛 𝓜 𝓡 wired)

-- bytes that are the full copy have themselves for their full copy, and for their archive copy that of the chunk
module _ (L M : ResourceLimits) (chunk old written : Bytes) (w : FullWrites L chunk old written) (again : Belongs M written) where
  abbrev b : Belongs L chunk
  b = full_written_belongs L chunk old written w

  there : Chunk M (full_copy b.reading) again.reading
  there = subst (λ (x : Bytes). Chunk M x again.reading) (full_written_lem L chunk old written b w) again.is

  itself : full_copy again.reading ≡ written
  itself = full_same L M chunk b.reading again.reading b.is w.call.below there ∙ sym (full_written_lem L chunk old written b w)

  its_archive : copy again.reading ≡ copy b.reading
  its_archive = full.archive_of_full L M chunk b.reading again.reading b.is w.call.below there

-- what the call writes, given what it wrote, is the same
pub full_written_again : (L M : ResourceLimits) (chunk old written old' again : Bytes) → FullWrites L chunk old written → FullWrites M written old' again → again ≡ written
full_written_again L M chunk old written old' again w v =
    let d = full_written_belongs M written old' again v in
    full_written_lem M written old' again d v ∙ itself L M chunk old written w d

-- and under the premises it does write it, wherever it is lent as much space
pub full_written_once_more : (L : ResourceLimits) (chunk old written old' : Bytes) → FullWrites L chunk old written → 1 ≤ L.max_string_bytes → length written ≤ L.max_input_bytes → length written ≤ length old'
    → FullWrites L written old' written
full_written_once_more L chunk old written old' w string input room =
    let b = full_written_belongs L chunk old written w in
    let is = full_written_lem L chunk old written b w in
    let again = (full_written-is-read L chunk old written b w string input).belongs in
    let below : Below 256 written = rw is (full_below L chunk b.reading b.is w.call.below) in
    let same = itself L L chunk old written w again in
    rw same at (writes_by full_copy L written old' again.reading below (given again) (rw same room))

pub equal_full_written : (L M : ResourceLimits) (s t old old' u v : Bytes) (b : Belongs L s) (d : Belongs M t) → FullWrites L s old u → FullWrites M t old' v → u ≡ v ↔ SameInFull b.reading d.reading
equal_full_written L M s t old old' u v b d w x =
    let here = full_written_lem L s old u b w in
    let there = full_written_lem M t old' v d x in
    let law = equal_full_copies L M s t b d w.call.below x.call.below in
    (λ same. law.0 (sym here ∙ same ∙ there), λ same. here ∙ law.1 same ∙ sym there)

-- under whatever limits a chunk is read, its archive copy is one
one_archive : (L M : ResourceLimits) (chunk : Bytes) (b : Belongs L chunk) (d : Belongs M chunk) → copy b.reading ≡ copy d.reading
unfolding copy
one_archive L M chunk b d = let same = under_any_limits L M chunk b.reading d.reading b.is d.is in rw (same.functions, same.trailing)

-- what `encode_chunk_lua54` writes of what `full_copy` wrote is what it writes of the chunk
pub archive_of_full_written : (L M N : ResourceLimits) (chunk old written old' archive old'' other : Bytes) → FullWrites L chunk old written → Writes M written old' archive → Writes N chunk old'' other → archive ≡ other
archive_of_full_written L M N chunk old written old' archive old'' other w x y =
    let d = written_belongs M written old' archive x in
    let e = written_belongs N chunk old'' other y in
    let b = full_written_belongs L chunk old written w in
    written-is-copy M written old' archive d.reading x (given d) ∙ its_archive L M chunk old written w d ∙ one_archive L N chunk b e ∙ sym (written-is-copy N chunk old'' other e.reading y (given e))

-- ## Lua's own dumper
pub as_lua_dumps_in_full : (L : ResourceLimits) (chunk old written : Bytes) (r : Reading) → FullWrites L chunk old written → read L chunk ≡ shown r → All (AsLuaInFull r.functions) r.functions
    → written ≡ lua_u_dump false r.functions ++ r.trailing
as_lua_dumps_in_full L chunk old written r w e a = written-is_by L chunk old written w r e ∙ full_as_dumped L chunk r (read_sound L chunk r e) a
