-- Demand 3. A script is read exactly when its bytes belong, under the limits, to the chunk grammar; what is shown is its reading by that grammar, and the only one.
-- Its archive copy is read again with the same reading (format byte, warnings, nested source names and places aside), copying the copy gives the same bytes,
-- and two scripts have equal copies exactly when their readings are equal so.
--
-- `Belongs L chunk` is that its bytes belong under the limits L to the grammar `Chunk` (crates/format/specs/GrammarChunk.antt, which names no reader), with their reading. Of the calls it is shown:
--     1  summary_exactly          `chunk_summary` answers with a summary exactly where the chunk belongs
--        refused_exactly          and exactly where it does not, every call refuses it, all with one refusal, and lent memory stays as it was (`Refuses`, `Calls.antt`)
--     2  shown-is_the_reading     where it belongs, what every call shows is its part of that reading (`Shows`, `Calls.antt`)
--        shown-at-places          and so do the calls at a place
--        (`Complete.antt`: `Shows` and `Refuses` leave no call out that goes by the reading: where they are the same, each answers alike)
--        together                 and the summary, the fields and the entries together show the whole of it, but for parts that are named (`Together.antt`)
--     3  reading_unique           and it has no other
--        under_any_limits         nor under other limits, but for the warnings that these drop
--     4  copy-is-written          `encode_chunk_lua54` writes (`Writes`, `Written.antt`) the copy of a chunk that belongs wherever there is room
--        written-is-read          what it writes belongs, with the same reading but for what the demand sets aside (`SameButFor`, `Same.antt`)
--        shortest-spelling        no spelling of a number is shorter than the copy's
--     5  written_again            on what it wrote, it writes the same
--        written_once_more        and it does write, wherever it is lent as much space
--     6  equal_written            what it writes of two scripts is equal exactly when their readings are the same but for what the demand sets aside
-- The same of the definitions (the reader `read` of crates/format/specs/ReadChunk.antt, the copy `copy` of Copy.antt there): read_exactly, copy-is-read, copy-of-copy, equal_copies. There `Below 256` says of a list that its numbers are
-- bytes, since lists of the definitions may hold any number. Of the calls it is not asked: a slice's are bytes (`Slices.antt`), and `Writes` has it from there.
-- Assumes nothing.
use Rattle.std.specs.Prelude.{Result, Ok, Err}
use mathlib.Core.Path.{◌≡◌, refl, sym, ◌∙◌, ap, subst}
use mathlib.Core.Logic.{◌↔◌}
use mathlib.Core.Bool.{true}
use mathlib.Core.List.{List}
use mathlib.Core.Option.{some}
use Prim.Native.Nat.{ℕ, ◌≤◌}
use native.Mathlib.Omega.{arith}
use lib.ListN.{length, get_elem?}
use Rattle.format.specs.declared.limits.ResourceLimits.{ResourceLimits}
use Rattle.format.specs.declared.refusal.Refusal.{Refusal}
use Rattle.format.specs.Form.{Bytes, Below}
use Rattle.format.specs.GrammarFields.{Number}
use Rattle.format.specs.Limits.{within_ceilings}
use Rattle.format.specs.Reading.{Reading, Prototype}
use Rattle.format.specs.GrammarChunk.{reading, Chunk}
use Rattle.format.specs.ReadChunk.{Outcome, shown, refusal, read}
use Rattle.format.specs.Shortest.{shortest}
use Rattle.format.specs.Copy.{copy}
use Rattle.format.proofs.ShortestLaws.{shortest_least}
use Rattle.format.proofs.WiderChunk.{main_wider, above, above_left, above_right}
use Rattle.format_copy.proofs.CopyChunk.{copy_belongs, copy-same, copy-below}
use Rattle.format_copy.proofs.CopyChunk as copies
use Rattle.format.proofs.ReadChunkLaws.{read_sound, read-within, read_complete, chunk_unique}
use Rattle.format_spelling.specs.ReadSpelling.{spelling}
use Rattle.c_boundary.specs.Status.{limits_of}
use Rattle.show_chunk.specs.declared.summary.ChunkSummary.{ChunkSummary}
use Rattle.show_chunk.specs.Summaries.{shown_summary}
use Rattle.demands.proofs.Calls.{Shows, shows, Refuses, refuses}
use Rattle.demands.proofs.Written.{Copying, Writes, by_reading, written-is-copy, writes}
use Rattle.demands.proofs.Same.{SameButFor, same_exactly}
use Rattle.demands.proofs.Alike.{without_count, AnswerAlike, EqualAsShown}
use Rattle.demands.proofs.Together.{Summarised, alike_exactly}
use Rattle.demands.proofs.ShownAt.{ShownAt, shown-at}

-- ## 1. Read exactly when it belongs
-- the limits are within their ceilings, the chunk is no longer than the input limit, and it belongs under the limits to the grammar
pub record Belongs (L : ResourceLimits) (chunk : Bytes) : Type 0 where
  pub ceilings : within_ceilings L ≡ true
  pub input : length chunk ≤ L.max_input_bytes
  pub reading : Reading
  pub is : Chunk L chunk reading

-- the reader gives a reading of the chunk
pub record IsRead (L : ResourceLimits) (chunk : Bytes) : Type 0 where
  pub reading : Reading
  pub is : read L chunk ≡ shown reading

-- For any bytes and any limits: the reader gives a reading exactly when the bytes belong.
pub read_exactly : (L : ResourceLimits) (chunk : Bytes) → IsRead L chunk ↔ Belongs L chunk
read_exactly L chunk = (
  λ r. let w = read-within L chunk r.reading r.is in record { ceilings = w.0; input = w.1; reading = r.reading; is = read_sound L chunk r.reading r.is },
  λ b. record { reading = b.reading; is = read_complete L chunk b.reading b.ceilings b.input b.is },
)

-- what the reader gives of a chunk that belongs
given : {L : ResourceLimits} {chunk : Bytes} (b : Belongs L chunk) → read L chunk ≡ shown b.reading
given {L} {chunk} b = read_complete L chunk b.reading b.ceilings b.input b.is

-- `chunk_summary` answers with a summary, so meets no refusal
pub record SummaryGiven (L : ResourceLimits) (chunk : Bytes) : Type 0 where
  pub summary : ChunkSummary
  pub answers : shown_summary (spelling L chunk) (read L chunk) ≡ Ok summary

-- And so does the call.
pub summary_exactly : (L : ResourceLimits) (chunk : Bytes) → SummaryGiven L chunk ↔ Belongs L chunk
summary_exactly L chunk = (λ g. (read_exactly L chunk).0 (from (read L chunk) refl g.summary g.answers), λ b. record { summary = _; answers = ap (shown_summary (spelling L chunk)) (given b) })
  where
    from : (o : Outcome) → read L chunk ≡ o → (x : ChunkSummary) → shown_summary (spelling L chunk) o ≡ Ok x → IsRead L chunk
    from (shown r) is x e = record { reading = r; is = is }
    from (refusal q) is x e = absurd (let z : ◌≡◌ {A = ℕ} 0 1 = cc in omega arith)

-- every call refuses the chunk, all with one refusal
pub record RefusedByAll (L : ResourceLimits) (chunk : Bytes) : Type 0 where
  pub reason : Refusal
  pub by_all : Refuses L chunk reason

pub refused_exactly : (L : ResourceLimits) (chunk : Bytes) → RefusedByAll L chunk ↔ ¬ Belongs L chunk
refused_exactly L chunk = (λ f b. never f.by_all.summary (ap (shown_summary (spelling L chunk)) (given b)), λ out. from (read L chunk) refl out)
  where
    never : {q : Refusal} {x : ChunkSummary} → shown_summary (spelling L chunk) (read L chunk) ≡ Err q → shown_summary (spelling L chunk) (read L chunk) ≡ Ok x → ⊥
    never e f = let z : ◌≡◌ {A = ℕ} 0 1 = cc in omega arith

    from : (o : Outcome) → read L chunk ≡ o → ¬ Belongs L chunk → RefusedByAll L chunk
    from (shown r) is out = absurd (out ((read_exactly L chunk).0 (record { reading = r; is = is })))
    from (refusal q) is out = record { reason = q; by_all = refuses L chunk q is }

-- ## 2. What is shown is the reading
-- What every exported call shows of a chunk that belongs is its part of that reading (`Calls.antt`: the summary, the trailing bytes, the fields, every entry and every line of every function, strings' bytes, the index,
-- verdict and findings, the copy).
pub shown-is_the_reading : (L : ResourceLimits) (chunk : Bytes) (b : Belongs L chunk) → Shows L chunk b.reading
shown-is_the_reading L chunk b = shows L chunk b.reading (given b)

-- So do the calls at a place, from where a function begins and its lists stand in the reading (`ShownAt.antt`).
pub shown-at-places : (l : List ℕ) (chunk : Bytes) (b : Belongs (limits_of l) chunk) (k : ℕ) {p : Prototype} → get_elem? b.reading.functions k ≡ some p → ShownAt l chunk b.reading.functions k p
shown-at-places l chunk b k there = shown-at l chunk b.reading (given b) k there

-- Together the summary, the fields and the entries show the reading: of two chunks, whatever limits each is read under, these calls answer alike exactly where the readings are equal, but for what none of them shows
-- (`Alike.antt`; crates/format/specs/Reading.antt). `Summarised` is what holds after a call of `chunk_summary` (`Together.antt`): with its answer it has that the chunk is bytes.
pub together : (L M : ResourceLimits) (s t : Bytes) (x y : Result ChunkSummary Refusal) → Summarised L s x → Summarised M t y → (b : Belongs L s) (d : Belongs M t) → AnswerAlike L s M t ↔ EqualAsShown b.reading d.reading
together L M s t x y one two b d = alike_exactly L M s t one.below two.below b.reading d.reading (given b) (given d)

-- and then both are read, or none
pub together_read : (L M : ResourceLimits) (s t : Bytes) → AnswerAlike L s M t → Belongs L s → Belongs M t
together_read L M s t alike b = from (read M t) refl (sym alike.summary ∙ ap (λ o. without_count (shown_summary (spelling L s) o)) (given b))
  where
    from : (o : Outcome) → read M t ≡ o → {x : ChunkSummary} → without_count (shown_summary (spelling M t) o) ≡ Ok x → Belongs M t
    from (shown q) is e = (read_exactly M t).0 (record { reading = q; is = is })
    from (refusal q) is e = absurd (let z : ◌≡◌ {A = ℕ} 0 1 = cc in omega arith)

-- ## 3. Any two readings that the grammar allows the bytes are equal.
pub reading_unique : (L : ResourceLimits) (chunk : Bytes) (r q : Reading) → Chunk L chunk r → Chunk L chunk q → r ≡ q
reading_unique = chunk_unique

-- Under other limits the same bytes have the same reading, but for the warnings, of which the diagnostics limit may drop some.
pub record SameButWarnings (r q : Reading) : Type 0 where
  pub header : r.header ≡ q.header
  pub functions : r.functions ≡ q.functions
  pub trailing_at : r.trailing_at ≡ q.trailing_at
  pub trailing : r.trailing ≡ q.trailing

pub under_any_limits : (L M : ResourceLimits) (chunk : Bytes) (r q : Reading) → Chunk L chunk r → Chunk M chunk q → SameButWarnings r q
under_any_limits L M chunk r q c d =
    let N = above L M in
    let one : Chunk N chunk (reading N c.value (length c.front) c.trailing) = record { front = c.front; trailing = c.trailing; whole = c.whole; value = c.value; main = (main_wider (above_left L M)).widens c.main; shows = refl } in
    let two : Chunk N chunk (reading N d.value (length d.front) d.trailing) = record { front = d.front; trailing = d.trailing; whole = d.whole; value = d.value; main = (main_wider (above_right L M)).widens d.main; shows = refl } in
    let same = chunk_unique N chunk _ _ one two in
    record {
      header = sym (ap (λ x. x.header) c.shows) ∙ ap (λ x. x.header) same ∙ ap (λ x. x.header) d.shows;
      functions = sym (ap (λ x. x.functions) c.shows) ∙ ap (λ x. x.functions) same ∙ ap (λ x. x.functions) d.shows;
      trailing_at = sym (ap (λ x. x.trailing_at) c.shows) ∙ ap (λ x. x.trailing_at) same ∙ ap (λ x. x.trailing_at) d.shows;
      trailing = sym (ap (λ x. x.trailing) c.shows) ∙ ap (λ x. x.trailing) same ∙ ap (λ x. x.trailing) d.shows;
    }

-- ## 4. The copy is read again
-- bytes that belong, with a reading that is the same as r but for what the demand sets aside; and it is this reading of them that every call shows
pub record ReadAgain (L : ResourceLimits) (r : Reading) (bytes : Bytes) : Type 0 where
  pub belongs : Belongs L bytes
  pub same : SameButFor belongs.reading r
  pub shows_again : Shows L bytes belongs.reading

-- Under the two premises (a string limit of at least 1, since an absent local name is written as `?`; the copy within the input limit) the copy is read under the same limits.
pub copy-is-read : (L : ResourceLimits) (chunk : Bytes) (b : Belongs L chunk) → Below 256 chunk → 1 ≤ L.max_string_bytes → length (copy b.reading) ≤ L.max_input_bytes → ReadAgain L b.reading (copy b.reading)
copy-is-read L chunk b below string input =
    let c = copy_belongs L chunk b.reading b.is below string in
    let again : Belongs L (copy b.reading) = record { ceilings = b.ceilings; input = input; reading = c.0; is = c.1 } in
    record { belongs = again; same = (same_exactly L L (copy b.reading) chunk c.0 b.reading c.1 b.is).0 c.2; shows_again = shown-is_the_reading L (copy b.reading) again }

-- The copy spells each number by `shortest`, and no spelling that the grammar allows is shorter.
pub shortest-spelling : (at n : ℕ) (bytes : Bytes) → Number at bytes n → length (shortest n) ≤ length bytes
shortest-spelling = shortest_least

-- what the call writes of a chunk that belongs is the copy of its reading
copy_written_lem : (L : ResourceLimits) (chunk old written : Bytes) (b : Belongs L chunk) → Writes L chunk old written → written ≡ copy b.reading
copy_written_lem L chunk old written b w = written-is-copy L chunk old written b.reading w (given b)

-- after a call on a chunk that belongs, the copy is written wherever there is room
pub copy-is-written : (L : ResourceLimits) (chunk old : Bytes) (r : Result ℕ Refusal) (new : Bytes) → Copying L chunk old r new → (b : Belongs L chunk) → length (copy b.reading) ≤ length old → Writes L chunk old (copy b.reading)
copy-is-written L chunk old r new k b room = writes L chunk old b.reading k.below (given b) room

-- and it writes of no other
pub written_belongs : (L : ResourceLimits) (chunk old written : Bytes) → Writes L chunk old written → Belongs L chunk
written_belongs L chunk old written w = let k = by_reading L chunk old written w in (read_exactly L chunk).0 (record { reading = k.reading; is = k.is })

-- What the call writes is read again, whatever stood in the space that it was lent.
pub written-is-read : (L : ResourceLimits) (chunk old written : Bytes) (b : Belongs L chunk) → Writes L chunk old written → 1 ≤ L.max_string_bytes → length written ≤ L.max_input_bytes → ReadAgain L b.reading written
written-is-read L chunk old written b w string input =
    let is = copy_written_lem L chunk old written b w in
    rw is (copy-is-read L chunk b w.call.below string (rw (← is) input))

-- ## 5. Copying the copy gives the same bytes
-- under whatever limits the copy is read
pub copy-of-copy : (L M : ResourceLimits) (chunk : Bytes) (b : Belongs L chunk) → Below 256 chunk → (again : Belongs M (copy b.reading)) → copy again.reading ≡ copy b.reading
copy-of-copy L M chunk b below again = copy-same L M chunk b.reading again.reading b.is below again.is

-- bytes that are the copy have themselves for their copy
copied_again : (L M : ResourceLimits) (chunk written : Bytes) (b : Belongs L chunk) → Below 256 chunk → written ≡ copy b.reading → (again : Belongs M written) → copy again.reading ≡ written
copied_again L M chunk written b below is again = copy-same L M chunk b.reading again.reading b.is below (subst (λ (x : Bytes). Chunk M x again.reading) is again.is) ∙ sym is

-- what the call writes, given what it wrote, is the same
pub written_again : (L M : ResourceLimits) (chunk old written old' again : Bytes) → Writes L chunk old written → Writes M written old' again → again ≡ written
written_again L M chunk old written old' again w v =
    let b = written_belongs L chunk old written w in
    let d = written_belongs M written old' again v in
    copy_written_lem M written old' again d v ∙ copied_again L M chunk written b w.call.below (copy_written_lem L chunk old written b w) d

-- and under the premises of 4 it does write it, wherever it is lent as much space
pub written_once_more : (L : ResourceLimits) (chunk old written old' : Bytes) → Writes L chunk old written → 1 ≤ L.max_string_bytes → length written ≤ L.max_input_bytes → length written ≤ length old'
    → Writes L written old' written
written_once_more L chunk old written old' w string input room =
    let b = written_belongs L chunk old written w in
    let is = copy_written_lem L chunk old written b w in
    let again = (written-is-read L chunk old written b w string input).belongs in
    let below : Below 256 written = rw is (copy-below L chunk b.reading b.is w.call.below) in
    let same = copied_again L L chunk written b w.call.below is again in
    rw same at (writes L written old' again.reading below (given again) (rw same room))

-- ## 6. Two scripts, each read under any limits, have equal copies exactly when their readings are equal but for what the demand sets aside.
pub equal_copies : (L M : ResourceLimits) (s t : Bytes) (b : Belongs L s) (d : Belongs M t) → Below 256 s → Below 256 t → copy b.reading ≡ copy d.reading ↔ SameButFor b.reading d.reading
equal_copies L M s t b d below below' =
    let one = copies.equal_copies L M s t b.reading d.reading b.is d.is below below' in
    let two = same_exactly L M s t b.reading d.reading b.is d.is in
    (λ e. two.0 (one.0 e), λ h. one.1 (two.1 h))

-- what the call writes of each
pub equal_written : (L M : ResourceLimits) (s t old old' u v : Bytes) (b : Belongs L s) (d : Belongs M t) → Writes L s old u → Writes M t old' v → u ≡ v ↔ SameButFor b.reading d.reading
equal_written L M s t old old' u v b d w x =
    let here = copy_written_lem L s old u b w in
    let there = copy_written_lem M t old' v d x in
    let law = equal_copies L M s t b d w.call.below x.call.below in
    (λ same. law.0 (sym here ∙ same ∙ there), λ same. here ∙ law.1 same ∙ sym there)
