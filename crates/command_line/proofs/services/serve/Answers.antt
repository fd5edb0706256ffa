use Rattle.command_line.proofs.services.serve.Goals as goal

pub returns : goal.returns
returns c =
    let with_count = c.with-command.ensures _ _ c.serve_wanted-command.ensures c.option.ensures in
    let with_patience = c.with-command-2.ensures _ _ with_count c.option-2.ensures in
    let with_peers = c.with-command-3.ensures _ _ with_patience c.option-3.ensures in
    let with_hosts = c.with-command-4.ensures _ _ with_peers c.repeated.ensures in
    let with_from = c.with-command-5.ensures _ _ with_hosts c.option-4.ensures in
    let with_anyone = c.with-command-6.ensures _ _ with_from c.flag.ensures in
    let with_clerks = c.with-command-7.ensures _ _ with_anyone c.flag-2.ensures in
    c.with_at.ensures _ (c.with-command-8.ensures _ _ with_clerks c.option-5.ensures)
