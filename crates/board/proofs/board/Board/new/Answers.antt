use Rattle.std.proofs.Common.{◌<◌, ◌^◌, arith}
use Rattle.board.specs.Keeping.{room_of}
use Rattle.board.proofs.Few.{few_modules}
use Rattle.board.proofs.Steps.{new_board}
use Rattle.board.proofs.board.Board.new.Goals as goal

pub make_parts-requires-clause-few : goal.make_parts-requires-clause-few
make_parts-requires-clause-few g c = few_modules c.args.plan.now c.requires.sound c.requires.few

pub invariant_of-result : goal.invariant_of-result
invariant_of-result g c =
    let few = c.requires.few in
    let short : c.args.plan.now.events < 2 ^ 62 = omega (arith, few) in
    new_board g.S.Shelf.told g.S.Shelf.faults c.args.plan.now (room_of c.in-Ok.answers c.in-Ok.states) c.in-Ok.ensures.core c.of-opening.ensures c.in-Ok.ensures.answers.0 c.in-Ok.ensures.marks c.requires.sound short (few_modules c.args.plan.now c.requires.sound c.requires.few) c.in-Ok.ensures.answers.2 c.in-Ok.ensures.answers.1 c.in-Ok.ensures.states c.requires.present
