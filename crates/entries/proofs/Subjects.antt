-- Whom a readable interchange names.
use Rattle.std.proofs.Common.{◌≡◌, ℕ, false, List, refl, sym, ◌∙◌, ap, Option, Some, None}
use Rattle.std.specs.Prelude.{option_map}
use Rattle.definitions.specs.Header.{Who, is_unreadable, isa}
use Rattle.definitions.specs.Register.{Interchange, command_mark, interchange_mark}
use Rattle.definitions.specs.Accepted.{subject}
use Rattle.entries.specs.Asked.{sender_named, mark_of}
use Rattle.entries.specs.declared.commands.Key.{Key}
use Rattle.std.specs.Prelude.{MatchOption}

abbrev with_mark : List ℕ → Who → Who × List ℕ
with_mark text w = (w, command_mark (Interchange text))

pub subject_named : (text : List ℕ) (o : Option Who) → is_unreadable text ≡ false → o ≡ sender_named text → subject (Interchange text) ≡ option_map (with_mark text) o
subject_named text o readable is = rw (readable, is) refl

-- what is named by the header is the subject
pub subject_of : (text header : List ℕ) (r : Option (Who × Key)) → is_unreadable text ≡ false → header ≡ text
    → MatchOption r (sender_named header ≡ None) (λ p. (sender_named header ≡ Some p.0) × (mark_of p.1 ≡ interchange_mark (isa header 13)))
    → MatchOption r (subject (Interchange text) ≡ None) (λ p. subject (Interchange text) ≡ Some (p.0, mark_of p.1))
subject_of text header None readable same h = subject_named text None readable (sym h ∙ ap sender_named same)
subject_of text header (Some p) readable same h =
    subject_named text (Some p.0) readable (sym h.0 ∙ ap sender_named same)
    ∙ ap (λ (m : List ℕ). Some (p.0, m)) (sym (h.1 ∙ ap (λ (x : List ℕ). interchange_mark (isa x 13)) same))
