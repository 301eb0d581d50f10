-- `show_local::put_name` meets its contract: by whether there is a name (`Names.antt`). Assumes nothing.
use native.Mathlib.Omega.{arith}
use Rattle.show_local.proofs.Names.{put_some, put-none}
use Rattle.show_local.proofs.put_name.Goals as goal

pub copy_bytes-requires : goal.copy_bytes-requires
copy_bytes-requires c =
    let fits = rw c.in-Some.is at c.requires.name_in_bounds in
    let stands = rw c.in-Some.is at c.requires.stands in
    (omega (arith, stands), omega arith)

pub bounds-out-0 : goal.bounds-out-0
bounds-out-0 c =
    let fits = rw c.in-None.is at c.requires.name_in_bounds in
    omega arith

pub returns-in-Some : goal.returns-in-Some
returns-in-Some c = put_some c.args.s.now c.args.out.now c.args.name _ c.in-Some.is c.requires.stands _ c.copy_bytes.ensures

pub returns-in-None : goal.returns-in-None
returns-in-None c =
    let fits = rw c.in-None.is at c.requires.name_in_bounds in
    put-none c.args.s.now c.args.out.now c.args.name c.in-None.is (omega arith)
