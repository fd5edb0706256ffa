use Rattle.command_line.proofs.subcommands.of_programs.Goals as goal

pub returns : goal.returns
returns c =
    let with_script = c.join-parser.ensures _ _ c.top.ensures.0 c.script.ensures in
    let with_batch = c.join_at-parser.ensures _ _ (c.with_lines-parser.ensures _ with_script) c.batch.ensures in
    let with_serve = c.join_at-parser-2.ensures _ _ with_batch c.serve.ensures in
    let with_verify = c.join_at-parser-3.ensures _ _ with_serve c.verify.ensures in
    c.join_at.ensures _ _ with_verify c.seal.ensures
