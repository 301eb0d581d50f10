-- `copy_parts::front::copy_sizes` meets its contract: three bytes, one after the other (`ThreeBytes.antt` of read_field), and what is put (`FrontPut.antt`). Assumes nothing.
use mathlib.Core.Path.{ap}
use Rattle.read_field.proofs.ThreeBytes.{three_read}
use Rattle.read_prototype.specs.Inner.Results.{sizes_result}
use Rattle.copy_parts.specs.Inner.Fronts.{sizes_read}
use Rattle.copy_parts.proofs.FrontPut.{sizes_copied}
use Rattle.copy_parts.proofs.front.copy_sizes.Goals as goal

pub returns : goal.returns
returns c =
    let a = c.args in
    let e = three_read (λ a b x. record { numparams = a; is_vararg = b; maxstacksize = x }) sizes_result a.s.now a.cursor.at _ _ c.in_ok-numparams.ensures _ _ c.in_ok-is_vararg.ensures _ _ c.in_ok-maxstacksize.ensures in
    record {
      read_value = ap sizes_read e;
      puts_sizes = sizes_copied e c.put_sizes-behind.ensures;
    }
