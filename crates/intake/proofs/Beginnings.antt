-- an input begins with one head, or with none
use Rattle.std.proofs.Common.{◌≡◌, ◌≢◌, ℕ, List, Option, Some, None, refl, ap, ◌∙◌}
use Rattle.std.specs.Prelude.{option_map}
use Rattle.httparse.specs.Grammar.{RequestHead}
use Rattle.httparse.proofs.GrammarLemmas.{request_unique}
use Rattle.definitions.specs.Header.{Who}
use Rattle.definitions.specs.Moments.{Moment}
use Rattle.definitions.specs.Register.{Entry}
use Rattle.definitions.specs.Response.{asked, Nowhere}
use Rattle.intake.specs.Routes.{route_of}
use Rattle.intake.specs.Fields.{head_of}
use Rattle.intake.specs.Admitting.{call_submitted, call_answer, command_in, answer_of}
use Rattle.intake.specs.Serving.{BeginsWith}
use Rattle.intake.specs.declared.audience.Audience.{Audience}
use Rattle.intake.specs.declared.audience.Audience.TheVariants.{Partners, Testers, Clerks}
use Rattle.intake.proofs.Whole.{calls_nothing}

pub one_thing : (input : List ℕ) (g h : Option RequestHead) (r s : List ℕ) → BeginsWith input g r → BeginsWith input h s
    → asked (option_map head_of g) r ≡ asked (option_map head_of h) s
one_thing input None None r s a b = refl
one_thing input None (Some h) r s a b = absurd (a h s b)
one_thing input (Some g) None r s a b = absurd (b g r a)
one_thing input (Some g) (Some h) r s a b =
    let same = request_unique input g h r s a.reads b.reads in
    ap (λ (k : RequestHead). asked (Some (head_of k)) r) same.0 ∙ ap (λ (l : List ℕ). asked (Some (head_of h)) l) same.1

-- so what is submitted is one command, and what is answered one response
pub one_command : (audience : Audience) (input : List ℕ) (g h : Option RequestHead) (r s : List ℕ) → BeginsWith input g r → BeginsWith input h s
    → command_in audience g r ≡ command_in audience h s
one_command Partners input None None r s a b = refl
one_command Testers input None None r s a b = refl
one_command Clerks input None None r s a b = refl
one_command audience input None (Some h) r s a b = absurd (a h s b)
one_command audience input (Some g) None r s a b = absurd (b g r a)
one_command audience input (Some g) (Some h) r s a b =
    let same = request_unique input g h r s a.reads b.reads in
    ap (λ (k : RequestHead). command_in audience (Some k) r) same.0 ∙ ap (λ (l : List ℕ). command_in audience (Some h) l) same.1

pub one_answer : (audience : Audience) (W : Who) (L : List Entry) (t : Moment) (input : List ℕ) (g h : Option RequestHead) (r s : List ℕ) → BeginsWith input g r → BeginsWith input h s
    → answer_of audience W L g r t ≡ answer_of audience W L h s t
one_answer Partners W L t input None None r s a b = refl
one_answer Testers W L t input None None r s a b = refl
one_answer Clerks W L t input None None r s a b = refl
one_answer audience W L t input None (Some h) r s a b = absurd (a h s b)
one_answer audience W L t input (Some g) None r s a b = absurd (b g r a)
one_answer audience W L t input (Some g) (Some h) r s a b =
    let same = request_unique input g h r s a.reads b.reads in
    ap (λ (k : RequestHead). answer_of audience W L (Some k) r t) same.0 ∙ ap (λ (l : List ℕ). answer_of audience W L (Some h) l t) same.1

-- and at the routes that are always served these are the same, whoever is served
module _ (h : RequestHead) (rest : List ℕ) (not : route_of h.target ≢ Nowhere) where
  pub same_command : command_in Clerks (Some h) rest ≡ command_in Partners (Some h) rest
  same_command = ap (λ o. call_submitted o h rest) (calls_nothing h.target not)

  pub same_answer : (W : Who) (L : List Entry) (t : Moment) → answer_of Clerks W L (Some h) rest t ≡ answer_of Partners W L (Some h) rest t
  same_answer W L t = ap (λ o. call_answer o W L h rest t) (calls_nothing h.target not)
