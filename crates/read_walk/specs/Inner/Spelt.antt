-- How functions are spelt that a walk passes over.
--     nested_spelt L left w     of a function that nests in another, below which functions nest at most `left` deep (`entered` of Skim.antt)
--     own_source named n r      a function's own source: `named` where it is spelt, n its number, r whether it is its parent's. The archive copy drops it but for main's, the full copy where it is the parent's
use Rattle.std.specs.Prelude.{Bool, cond, ℕ, zero, suc, eqb}
use Rattle.format.specs.declared.limits.ResourceLimits.{ResourceLimits}
use Rattle.format.specs.declared.spelling.Spelling.{Spelling}
use Rattle.format.specs.GrammarChunk.{Where}
use Rattle.format_spelling.specs.ReadSpelling.{Count, none, function}

abbrev pub nested_spelt : ResourceLimits → ℕ → Where → Count
nested_spelt L zero w = none
nested_spelt L (suc left) w = function L left w

abbrev pub own_source : Bool → ℕ → Bool → Spelling
own_source named n repeated = record { padded = 0; filled = 0; sources = cond named (cond (eqb n 0) 0 1) 0; repeated = cond named (cond repeated 1 0) 0 }
