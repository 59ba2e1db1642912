-- What is left to show of `next_neighbour`.
use Rattle.std.proofs.Common.{arith}
use Rattle.board.specs.GridsLemmas.{NoAbove, NoLeft, NoRight, NoUnder, next_above, next_left, next_right, next_under, next_none}
use Rattle.board.proofs.grid.Grid.next_neighbour.Goals as goal
use Rattle.board.proofs.grid.Grid.next_neighbour.Goals.{else-v-columns-via-then-v-columns+else-v-columns-2, else-v-columns-via-else-v-columns}
use Rattle.board.proofs.grid.Grid.next_neighbour.Goals.{else-column-gt0-via-then-column-gt0+else-v-j, else-column-gt0-via-else-column-gt0}
use Rattle.board.proofs.grid.Grid.next_neighbour.Goals.{else-column-columns-via-then-column-columns+else-v-j-2, else-column-columns-via-else-column-columns}
use Rattle.board.proofs.grid.Grid.next_neighbour.Goals.{else-v-columns-3-via-then-v-columns-3+else-v-columns-4, else-v-columns-3-via-else-v-columns-3}

pub returns-then-v-columns-2 : goal.returns-then-v-columns-2
returns-then-v-columns-2 c = next_above c.args.self.now.rows c.args.self.now.columns c.args.self.now.ok.2 c.args.v c.args.j c.requires c.if-v-columns.true (omega (arith, c.if-v-columns-2.true))

pub returns-then-v-j : goal.returns-then-v-j
returns-then-v-j c =
    let no_above : NoAbove c.args.self.now.rows c.args.self.now.columns c.args.self.now.ok.2 c.args.v c.args.j c.requires =
    λ h. elim c.else-v-columns.branch [ else-v-columns-via-then-v-columns+else-v-columns-2 w ↦ omega (arith, w.if-v-columns-2.false) | else-v-columns-via-else-v-columns w ↦ omega (arith, h, w.if-v-columns.false) ] in
    next_left c.args.self.now.rows c.args.self.now.columns c.args.self.now.ok.2 c.args.v c.args.j c.requires no_above c.if-column-gt0.true (omega (arith, c.if-v-j.true))

pub returns-then-v-j-2 : goal.returns-then-v-j-2
returns-then-v-j-2 c =
    let no_above : NoAbove c.args.self.now.rows c.args.self.now.columns c.args.self.now.ok.2 c.args.v c.args.j c.requires =
    λ h. elim c.else-v-columns.branch [ else-v-columns-via-then-v-columns+else-v-columns-2 w ↦ omega (arith, w.if-v-columns-2.false) | else-v-columns-via-else-v-columns w ↦ omega (arith, h, w.if-v-columns.false) ] in
    let no_left : NoLeft c.args.self.now.rows c.args.self.now.columns c.args.self.now.ok.2 c.args.v c.args.j c.requires =
    λ h. elim c.else-column-gt0.branch [ else-column-gt0-via-then-column-gt0+else-v-j w ↦ omega (arith, w.if-v-j.false) | else-column-gt0-via-else-column-gt0 w ↦ omega (arith, h, w.if-column-gt0.false) ] in
    next_right c.args.self.now.rows c.args.self.now.columns c.args.self.now.ok.2 c.args.v c.args.j c.requires no_above no_left c.if-column-columns.true (omega (arith, c.if-v-j-2.true))

pub returns-then-v-columns-4 : goal.returns-then-v-columns-4
returns-then-v-columns-4 c =
    let no_above : NoAbove c.args.self.now.rows c.args.self.now.columns c.args.self.now.ok.2 c.args.v c.args.j c.requires =
    λ h. elim c.else-v-columns.branch [ else-v-columns-via-then-v-columns+else-v-columns-2 w ↦ omega (arith, w.if-v-columns-2.false) | else-v-columns-via-else-v-columns w ↦ omega (arith, h, w.if-v-columns.false) ] in
    let no_left : NoLeft c.args.self.now.rows c.args.self.now.columns c.args.self.now.ok.2 c.args.v c.args.j c.requires =
    λ h. elim c.else-column-gt0.branch [ else-column-gt0-via-then-column-gt0+else-v-j w ↦ omega (arith, w.if-v-j.false) | else-column-gt0-via-else-column-gt0 w ↦ omega (arith, h, w.if-column-gt0.false) ] in
    let no_right : NoRight c.args.self.now.rows c.args.self.now.columns c.args.self.now.ok.2 c.args.v c.args.j c.requires =
    λ h. elim c.else-column-columns.branch [ else-column-columns-via-then-column-columns+else-v-j-2 w ↦ omega (arith, w.if-v-j-2.false) | else-column-columns-via-else-column-columns w ↦ omega (arith, h, w.if-column-columns.false) ] in
    next_under c.args.self.now.rows c.args.self.now.columns c.args.self.now.ok.2 c.args.v c.args.j c.requires no_above no_left no_right c.if-v-columns-3.true (omega (arith, c.if-v-columns-4.true))

pub returns : goal.returns
returns c =
    let no_above : NoAbove c.args.self.now.rows c.args.self.now.columns c.args.self.now.ok.2 c.args.v c.args.j c.requires =
    λ h. elim c.else-v-columns.branch [ else-v-columns-via-then-v-columns+else-v-columns-2 w ↦ omega (arith, w.if-v-columns-2.false) | else-v-columns-via-else-v-columns w ↦ omega (arith, h, w.if-v-columns.false) ] in
    let no_left : NoLeft c.args.self.now.rows c.args.self.now.columns c.args.self.now.ok.2 c.args.v c.args.j c.requires =
    λ h. elim c.else-column-gt0.branch [ else-column-gt0-via-then-column-gt0+else-v-j w ↦ omega (arith, w.if-v-j.false) | else-column-gt0-via-else-column-gt0 w ↦ omega (arith, h, w.if-column-gt0.false) ] in
    let no_right : NoRight c.args.self.now.rows c.args.self.now.columns c.args.self.now.ok.2 c.args.v c.args.j c.requires =
    λ h. elim c.else-column-columns.branch [ else-column-columns-via-then-column-columns+else-v-j-2 w ↦ omega (arith, w.if-v-j-2.false) | else-column-columns-via-else-column-columns w ↦ omega (arith, h, w.if-column-columns.false) ] in
    let no_under : NoUnder c.args.self.now.rows c.args.self.now.columns c.args.self.now.ok.2 c.args.v c.args.j c.requires =
    λ h. elim c.else-v-columns-3.branch [ else-v-columns-3-via-then-v-columns-3+else-v-columns-4 w ↦ omega (arith, w.if-v-columns-4.false) | else-v-columns-3-via-else-v-columns-3 w ↦ omega (arith, h, w.if-v-columns-3.false) ] in
    next_none c.args.self.now.rows c.args.self.now.columns c.args.self.now.ok.2 c.args.v c.args.j c.requires no_above no_left no_right no_under
