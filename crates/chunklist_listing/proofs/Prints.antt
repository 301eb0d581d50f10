-- What `chunklist` prints (01 'Calls', last paragraph), beside 01's own two outputs (Cases.antt): inputs and texts, which antt computes, and a law.
--     several_hold     a chunk of nine functions, of which one has numbers that all differ (crates/format/proofs/Distinct.antt)
--     invalid_holds    a chunk whose one word has no opcode: `invalid`
--     words_hold       the line of a chunk for each verdict: `incomplete` needs 10,000 findings (crates/validate_rules/proofs)
--     longest_holds    49,152 bytes, the last of them trailing, are read
--     longer_refused   more bytes than 49,152, whatever they are: `refused 22`
--     places_hold      refusals with a place and without
--     chains_hold      functions within each other, 14 deep: all are listed; 15 deep: refused where the last one begins (02, item 5)
-- Told apart: two columns exchanged, the number of a function left out, another word for a verdict, a limit of one byte more or less, ` at ` and a place where there is none.
-- Assumes nothing.
use mathlib.Core.Path.{◌≡◌, refl}
use mathlib.Core.List.{[], ◌∷◌, ◌++◌, map}
use Prim.Native.Nat.{◌<◌}
use lib.ListN.{length, replicate, take}
use borrow.Author.Tests.{lt-leb}
use Rattle.format.specs.declared.refusal.Refusal.TheVariants as refuses
use Rattle.format.specs.Form.{Bytes}
use Rattle.format.specs.ReadChunk.{body, function, read}
use Rattle.format.proofs.Distinct.{distinct}
use Rattle.format.proofs.NestingCases.{chain}
use Rattle.validate_rules.specs.declared.finding.Verdict.TheVariants.{ValidForAnalysis, Invalid, Incomplete}
use Rattle.validate_rules.specs.Rules.{instruction}
use Rattle.validate_rules.specs.Findings.{code_groups, groups, limited, chunk_findings}
use Rattle.word_fields.specs.Word.{decoded}
use Rattle.chunklist_lines.specs.Lines.{digits_up_to, first_line, refusal_line}
use Rattle.chunklist_listing.specs.Listing.{listing}
use Rattle.chunklist_listing.proofs.Cases.{small}
use Rattle.format.specs.Ascii.{ascii}

several_hold : listing distinct ≡ ascii "chunk 311 functions 9 trailing 3 verdict valid-for-analysis\n0 0 0 0 0 1 2 0 0 0\n1 1 0 0 0 0 2 0 0 0\n2 2 0 0 0 0 2 0 0 0\n3 1 0 0 0 0 2 0 0 0\n4 2 13 14 15 16 17 5 7 6\n5 3 0 0 0 0 2 0 0 0\n6 3 0 0 0 0 2 0 0 0\n7 3 0 0 0 0 2 0 0 0\n8 3 0 0 0 0 2 0 0 0\n"
unfolding distinct read body function code_groups groups limited chunk_findings instruction decoded digits_up_to first_line refusal_line
several_hold = refl

-- 01's 46 bytes with one word, 00000053
wrong : Bytes
unfolding small
wrong = take 38 small ++ (0x81 ∷ 0x53 ∷ 0 ∷ 0 ∷ 0 ∷ replicate 7 0x80)

invalid_holds : listing wrong ≡ ascii "chunk 50 functions 1 trailing 0 verdict invalid\n0 0 0 0 0 0 2 1 0 0\n"
unfolding wrong small read body function code_groups groups limited chunk_findings instruction decoded digits_up_to first_line refusal_line
invalid_holds = refl

words_hold : map (first_line 80046 12 3) (ValidForAnalysis ∷ Invalid ∷ Incomplete ∷ [])
    ≡ ascii "chunk 80046 functions 12 trailing 3 verdict valid-for-analysis\n"
    ∷ ascii "chunk 80046 functions 12 trailing 3 verdict invalid\n"
    ∷ ascii "chunk 80046 functions 12 trailing 3 verdict incomplete\n"
    ∷ []
unfolding first_line digits_up_to
words_hold = refl

-- ## Refusals
places_hold : map refusal_line (refuses.Truncated 0 ∷ refuses.TotalPrototypes 49151 ∷ refuses.InputBytes ∷ refuses.Overflow ∷ [])
    ≡ ascii "refused 1 at 0\n" ∷ ascii "refused 20 at 49151\n" ∷ ascii "refused 22\n" ∷ ascii "refused 2\n" ∷ []
unfolding refusal_line digits_up_to
places_hold = refl

-- ## The deepest chunk
chains_hold : map (λ d. listing (chain d)) (14 ∷ 15 ∷ 200 ∷ [])
    ≡ ascii "chunk 242 functions 15 trailing 0 verdict valid-for-analysis\n0 0 0 0 0 0 2 0 0 0\n1 1 0 0 0 0 2 0 0 0\n2 2 0 0 0 0 2 0 0 0\n3 3 0 0 0 0 2 0 0 0\n4 4 0 0 0 0 2 0 0 0\n5 5 0 0 0 0 2 0 0 0\n6 6 0 0 0 0 2 0 0 0\n7 7 0 0 0 0 2 0 0 0\n8 8 0 0 0 0 2 0 0 0\n9 9 0 0 0 0 2 0 0 0\n10 10 0 0 0 0 2 0 0 0\n11 11 0 0 0 0 2 0 0 0\n12 12 0 0 0 0 2 0 0 0\n13 13 0 0 0 0 2 0 0 0\n14 14 0 0 0 0 2 0 0 0\n"
    ∷ ascii "refused 19 at 182\n"
    ∷ ascii "refused 19 at 182\n"
    ∷ []
unfolding read body function code_groups groups limited chunk_findings instruction decoded digits_up_to first_line refusal_line
chains_hold = refl

-- ## The longest file
longest_holds : listing (small ++ replicate 49106 0) ≡ ascii "chunk 49152 functions 1 trailing 49106 verdict valid-for-analysis\n0 0 0 0 0 0 2 0 0 0\n"
unfolding small read body function code_groups groups limited chunk_findings digits_up_to first_line refusal_line
longest_holds = refl

pub longer_refused : (s : Bytes) → 49152 < length s → listing s ≡ ascii "refused 22\n"
unfolding read refusal_line digits_up_to
longer_refused s h = rw (lt-leb (length s) 49152 h)
