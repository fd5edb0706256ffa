use Rattle.std.proofs.Common.{◌≡◌, true, ap, ◌∙◌, List, ℕ, Bor, rules}
use Rattle.std.specs.List.{list_all}
use Rattle.definitions.specs.Bytes.{is_identifier_byte}
use Rattle.sheet_texts.proofs.ToldLaws.{ident_text, read_text}
use Rattle.sheet_texts.proofs.bad.text_of.Goals as goal

pub returns : goal.returns
returns c =
    let ident : list_all is_identifier_byte c.args.ident.now ≡ true = search rules in
    ap (λ (text : Bor (List ℕ)). text.now) c.unwrap_or.ensures ∙ read_text c.args.ident.now _ c.from_utf8.result _ (ident_text c.args.ident.now ident) c.from_utf8.ensures.cases
