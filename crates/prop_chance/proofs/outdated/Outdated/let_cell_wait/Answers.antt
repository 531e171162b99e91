use Rattle.std.proofs.Common.{◌≡◌, get_or, length, rules, arith}
use Rattle.std.specs.FinMap.{nat_cmp-IsAntisymmetric}
use Rattle.prop_shave.proofs.ChanceMentioned.{below_all}
use Rattle.prop_chance.proofs.Outdating.{cell_waits, listed_at}
use Rattle.prop_chance.proofs.outdated.Outdated.let_cell_wait.Goals as goal

pub let_each_wait-requires : goal.let_each_wait-requires
let_each_wait-requires g c =
    let mentions = c.requires.lists.0 in
    let count = length c.args.self.now.waits.items in
    let found = c.index-lists-place.result in
    let there : found ≡ get_or c.args.lists.now c.in-Ok.place found = first_of (search rules, grind arith) in
    let at = nat_cmp-IsAntisymmetric (get_or c.args.cells.now c.in-Ok.place c.args.cell) c.args.cell (c.in-Ok.ensures.ok c.args.cell) in
    let own = listed_at g.L.NumberList.numbers mentions count c.args.cells.now c.args.lists.now c.in-Ok.place c.args.cell c.args.cell found c.requires.lists.1 c.in-Ok.ensures.bound at there in
    record { below = λ i exists. below_all (mentions c.args.cell) count (g.L.NumberList.numbers found) i 0 own exists }

pub returns-in-Ok-clause-wait : goal.returns-in-Ok-clause-wait
returns-in-Ok-clause-wait g c = λ mentions before number are waits told fresh.
    let count = length c.args.self.now.waits.items in
    let found = c.index-lists-place.result in
    let there : found ≡ get_or c.args.lists.now c.in-Ok.place found = first_of (search rules, grind arith) in
    let at = nat_cmp-IsAntisymmetric (get_or c.args.cells.now c.in-Ok.place c.args.cell) c.args.cell (c.in-Ok.ensures.ok c.args.cell) in
    let own = listed_at g.L.NumberList.numbers mentions count c.args.cells.now c.args.lists.now c.in-Ok.place c.args.cell c.args.cell found are c.in-Ok.ensures.bound at there in
    cell_waits mentions c.args.cell count number (g.L.NumberList.numbers found) before c.args.self.now c.let_each_wait.new.self own c.let_each_wait.ensures.woken c.let_each_wait.ensures.count waits told
    c.let_each_wait.ensures.told fresh
