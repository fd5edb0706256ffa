use Rattle.std.proofs.Common.{ℕ, ◌+◌, refl, sym, subst, ◌≡◌, ◌∷◌, [], ◌++◌, List, Bool, cond, ap, ◌∙◌}
use Rattle.stock.specs.declared.steps.Change.{Change}
use Rattle.stock.specs.declared.steps.Change.TheVariants.{Document}
use Rattle.definitions.specs.Events.{Acknowledged}
use Rattle.stock.specs.Parts.{all_named}
use Rattle.stock.specs.Shows.{Shows}
use Rattle.stock.proofs.PartLemmas.{part_of_self}
use Rattle.stock.specs.Puts.{put}
use Rattle.stock.specs.Stops.{document_changes}
use Rattle.stock.proofs.Acknowledges.{document_part, acknowledged_put, acknowledged_shows, acknowledged_sound}
use Rattle.stock.proofs.acknowledgments.acknowledge.Goals as goal
use Rattle.stock.proofs.acknowledgments.acknowledge.Goals.{then-is_decisive+in_ok-push, else-is_decisive}

pub returns-clause-changes : goal.returns-clause-changes
returns-clause-changes c = λ n P part is.
    let p = c.args.page.now in
    let a = c.args.ack.now in
    let listed : Bool → List Change = λ v. cond v (Document a.document a.accepts ∷ []) [] in
    elim c.if-is_decisive.branch [
      | then-is_decisive+in_ok-push w ↦
          let pushed : c.if-is_decisive.changes.items ≡ Document a.document a.accepts ∷ [] =
          ap (λ v. v.items) w.changes-is ∙ w.in_ok-push.ensures.items ∙ (λ i. c.new-changes.ensures.items i ++ Document (c.ack.view_is i).document (c.ack.view_is i).accepts ∷ []) in
          pushed ∙ ap listed w.if-is_decisive.ensures ∙ document_part n p P a part c.rows.ensures.sound.sorted is
      | else-is_decisive w ↦ ap (λ v. v.items) w.changes-is ∙ c.new-changes.ensures.items ∙ ap listed w.if-is_decisive.ensures ∙ document_part n p P a part c.rows.ensures.sound.sorted is
    ]

pub returns-clause-ok : goal.returns-clause-ok
returns-clause-ok c = λ n P es part is shows.
    let a = c.args.ack.now in
    let made = acknowledged_shows a P (put (document_changes P a) P) es (acknowledged_put a P part.sorted) shows in
    let numbered = subst (λ (m : ℕ). Shows (put (document_changes P a) P) (es ++ Acknowledged (m + 1) a ∷ [])) (sym part.entries) made in
    rw (returns-clause-changes c n P part is) numbered

pub returns-clause-sound : goal.returns-clause-sound
returns-clause-sound c =
    let p = c.args.page.now in
    let a = c.args.ack.now in
    let sorted = c.rows.ensures.sound.sorted in
    rw (returns-clause-changes c all_named p (part_of_self all_named p sorted) refl)
    (acknowledged_sound a p (put (document_changes p a) p) (acknowledged_put a p sorted) c.requires c.rows.ensures.sound)
