-- The line of a function, of its row.
use Rattle.std.specs.Prelude.{ℕ, List, [], ◌∷◌, ◌++◌}
use Rattle.read_next.specs.declared.Row.{Row}
use Rattle.chunklist_lines.specs.Lines.{decimal, spaced}

-- number, depth, first line, last line, parameters, vararg, stack, instructions, constants, upvalues
unfoldable pub row_line : ℕ → Row → List ℕ
row_line k row =
    decimal k ++ spaced (
    row.depth
    ∷ row.lines.line_defined
    ∷ row.lines.last_line_defined
    ∷ row.sizes.numparams
    ∷ row.sizes.is_vararg
    ∷ row.sizes.maxstacksize
    ∷ row.instructions
    ∷ row.constants
    ∷ row.upvalues
    ∷ []
    )
