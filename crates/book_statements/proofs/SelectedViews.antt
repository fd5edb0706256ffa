-- The views of a syntax tree, and nothing else, unfold.

unfoldable pub views : Unit {0}
unfolding
    Rattle.sqlite_ast.specs.declared.Expr.TheBlock.hidden-the_row-Expr-0 Rattle.sqlite_ast.specs.declared.Expr.TheBlock.shown-the_row-Expr-0
    Rattle.sqlite_ast.specs.declared.Expr.TheBlock.hidden-the_row-Expr-1
    Rattle.sqlite_ast.specs.declared.Expr.TheBlock.shown-the_row-Expr-1 Rattle.sqlite_ast.specs.declared.Expr.TheBlock.hidden-the_row-Select-2
    Rattle.sqlite_ast.specs.declared.Expr.TheBlock.shown-the_row-Select-2
    Rattle.sqlite_ast.specs.declared.Expr.TheBlock.hidden-the_row-Arm-3 Rattle.sqlite_ast.specs.declared.Expr.TheBlock.shown-the_row-Arm-3
    Rattle.sqlite_ast.specs.declared.Expr.TheBlock.hidden-the_row-Shown-4
    Rattle.sqlite_ast.specs.declared.Expr.TheBlock.shown-the_row-Shown-4 Rattle.sqlite_ast.specs.declared.Expr.TheBlock.hidden-the_row-Source-5
    Rattle.sqlite_ast.specs.declared.Expr.TheBlock.shown-the_row-Source-5
    Rattle.sqlite_ast.specs.declared.Expr.TheBlock.hidden-the_row-Select-with-4-6
    Rattle.sqlite_ast.specs.declared.Expr.TheBlock.shown-the_row-Select-with-4-6
    Rattle.sqlite_ast.specs.declared.Expr.TheBlock.hidden-the_row-Select-others-2-7
    Rattle.sqlite_ast.specs.declared.Expr.TheBlock.shown-the_row-Select-others-2-7 Rattle.sqlite_ast.specs.declared.Expr.TheBlock.hidden-the_row-Sort-8
    Rattle.sqlite_ast.specs.declared.Expr.TheBlock.shown-the_row-Sort-8
    Rattle.sqlite_ast.specs.declared.Expr.TheViews.out-Expr Rattle.sqlite_ast.specs.declared.Expr.TheViews.roll-Expr
    Rattle.sqlite_ast.specs.declared.Expr.TheViews.out-Shown
    Rattle.sqlite_ast.specs.declared.Expr.TheViews.roll-Shown Rattle.sqlite_ast.specs.declared.Expr.TheViews.out-Core
    Rattle.sqlite_ast.specs.declared.Expr.TheViews.roll-Core
    Rattle.sqlite_ast.specs.declared.Expr.TheViews.out-Select Rattle.sqlite_ast.specs.declared.Expr.TheViews.roll-Select
    Rattle.sqlite_ast.specs.declared.Expr.TheViews.out-Source
    Rattle.sqlite_ast.specs.declared.Expr.TheViews.roll-Source denote.Hole.Carrier.out denote.Hole.Carrier.roll
    denote.Hole.Carrier.shown denote.Hole.Carrier.hidden
views = tt
