use Rattle.std.proofs.Common.{◌∙◌, ap, List, ℕ, sym}
use Rattle.std.specs.Prelude.{bytes_eq}
use Rattle.std.specs.Cmp.Lexicographic.{on_texts, texts_ties}
use Rattle.std.proofs.lemmas.List.Filters.{dedup_is}
use Rattle.std.proofs.lemmas.List.Kept.{IsStrictlySortedBy-dedup}
use Rattle.definitions.specs.Bytes.{is_one_of}
use Rattle.book_tables.proofs.OnceKept.{any_mapped, same_text, sorted_once}
use Rattle.book_tables.proofs.needed.once.Goals as goal

pub returns-clause-same : goal.returns-clause-same
returns-clause-same c = λ t.
    let texts = c.in_ok-texts.texts.items in
    let rest = c.dedup.new.self.items in
    let kept = sorted_once (λ x y. bytes_eq x.now y.now) (λ x. bytes_eq t x.now) (λ x y e. same_text t x.now y.now e) texts _ rest
    c.sort_unstable.ensures.permutation (dedup_is _ _ _ c.dedup.ensures.filtered) in
    any_mapped (λ s. s.now) (bytes_eq t) rest ∙ kept ∙ sym (any_mapped (λ s. s.now) (bytes_eq t) texts)
    ∙ ap (λ (ss : List (List ℕ)). is_one_of ss t) c.in_ok-texts.ensures

pub returns-clause-once : goal.returns-clause-once
returns-clause-once c = rw (dedup_is _ _ _ c.dedup.ensures.filtered) (IsStrictlySortedBy-dedup (on_texts (λ x. x.now)) (λ x y. texts_ties x.now y.now) _ c.sort_unstable.ensures.sorted)
