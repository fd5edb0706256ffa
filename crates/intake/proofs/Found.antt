-- what is found of a depositor, and under a number
use Rattle.std.proofs.Common.{◌≡◌, ℕ, List, Option, Some, None, Bool, true, false, refl, sym, ap, subst, ◌∙◌, find, ◌==◌, if◌then◌else◌}
use Rattle.std.specs.Prelude.{Result, unwrap_or, option_map}
use Rattle.definitions.specs.Bytes.{value}
use Rattle.definitions.specs.Header.{Who, who_of}
use Rattle.definitions.specs.Response.{Response, found_for, bare, content_response, is_plain_number, with_body, x12_type}
use Rattle.definitions.specs.Rows.{OutRow}
use Rattle.definitions.specs.Decision.{standing}
use Rattle.definitions.specs.History.{History}
use Rattle.definitions.specs.Need.{Need}
use Rattle.definitions.specs.declared.refusals.Refusal.{Refusal}
use Rattle.definitions.specs.declared.refusals.Refusal.TheVariants.{UnknownDepositor}
use Rattle.definitions.specs.Register.{Entry, own}
use Rattle.store.specs.Held.{IsHeld}
use Rattle.intake.specs.Answers.{told_text}
use Rattle.intake.specs.Calls.{line_response, form_by, form_response, sheet_response}
use Rattle.intake.specs.Forms.{form_need, form_text}
use Rattle.intake.specs.declared.calls.Form.{Form}

pub found : {X : Type 0} (who : List ℕ) (w : Who) (query : Who → Option X) (x : X) (answer : X → Response)
    → Some w ≡ who_of who → Some x ≡ query w → found_for who query answer ≡ answer x
found who w query x answer e f = rw (← e, ← f) refl

abbrev pub under : ℕ → List OutRow → Response
under n rows = unwrap_or (option_map (λ r. with_body 200 x12_type r.content) (find (λ r. r.n == n) rows)) (bare 404)

pub content_under : (n : List ℕ) (number : ℕ) (rows : List OutRow) → Some number ≡ (if is_plain_number n then Some (value n) else None)
    → under number rows ≡ content_response n rows
content_under n number rows = by (is_plain_number n)
  where
    by : (b : Bool) → Some number ≡ (if b then Some (value n) else None) → under number rows ≡ (if b then under (value n) rows else bare 404)
    by true e = cc
    by false e = cc

text_under : (n : ℕ) (rows : List OutRow) → told_text (Some (option_map (λ r. r.content) (find (λ r. r.n == n) rows))) ≡ under n rows
text_under n rows = by (find (λ r. r.n == n) rows)
  where
    by : (o : Option OutRow) → told_text (Some (option_map (λ r. r.content) o)) ≡ unwrap_or (option_map (λ r. with_body 200 x12_type r.content) o) (bare 404)
    by None = refl
    by (Some r) = refl

-- the text that is found of a depositor under a number
pub text_found : (who n : List ℕ) (w : Who) (number : ℕ) (query : Who → Option (List OutRow)) → Some w ≡ who_of who → Some number ≡ (if is_plain_number n then Some (value n) else None)
    → told_text (option_map (λ rows. option_map (λ r. r.content) (find (λ r. r.n == number) rows)) (query w)) ≡ found_for who query (content_response n)
text_found who n w number query is plain = by (query w) refl
  where
    by : (o : Option (List OutRow)) → query w ≡ o → told_text (option_map (λ rows. option_map (λ r. r.content) (find (λ r. r.n == number) rows)) o) ≡ found_for who query (content_response n)
    by None e = rw (← is, e) refl
    by (Some rows) e = text_under number rows ∙ content_under n number rows plain ∙ sym (found who w query rows (content_response n) is (sym e))

-- a form, by what a page holds of its depositor, and that of a stranger
module _ (L : List Entry) (form : Form) (n : List ℕ) (w : Who) (o : Option Who) (need : Need) where
  pub formed : (p : _) (made : Result (List ℕ) Refusal) → Some w ≡ o → need ≡ form_need form n
      → IsHeld need (Some p) (standing (own L w)) → ((h : History) → IsHeld (form_need form n) (Some p) (Some h) → form_text form h.events n ≡ made) → sheet_response made ≡ form_response L form o n
  formed p made name of held is = rw (← name) (by (standing (own L w)) held)
    where
      by : (h : Option History) → IsHeld need (Some p) h → sheet_response made ≡ form_by form n h
      by None there = absurd there
      by (Some h) there = ap sheet_response (sym (is h (subst (λ (k : Need). IsHeld k (Some p) (Some h)) of there)))

  pub unformed : Some w ≡ o → IsHeld need None (standing (own L w)) → line_response 404 UnknownDepositor ≡ form_response L form o n
  unformed name held = rw (← name) (by (standing (own L w)) held)
    where
      by : (h : Option History) → IsHeld need None h → line_response 404 UnknownDepositor ≡ form_by form n h
      by None there = refl
      by (Some h) there = absurd there
