-- What a text that has the form of a moment holds.
use Rattle.std.proofs.Common.{◌≡◌, ℕ, ◌==◌, true, List, length}
use Rattle.std.proofs.lemmas.Bool.{and_parts, eqb-true}
use Rattle.command_line.specs.Written.{is_form, has_pair, has_mark}

pub record Formed (text : List ℕ) : Type 0 where
  pub long : length text ≡ 16
  pub century : has_pair 0 text ≡ true
  pub year : has_pair 2 text ≡ true
  pub month : has_pair 5 text ≡ true
  pub day : has_pair 8 text ≡ true
  pub hour : has_pair 11 text ≡ true
  pub minute : has_pair 14 text ≡ true

pub formed : (text : List ℕ) → is_form text ≡ true → Formed text
formed text h =
    let whole = and_parts (length text == 16) _ h in
    let years = and_parts (has_pair 0 text) _ whole.1 in
    let after_years = and_parts (has_pair 2 text) _ years.1 in
    let months = and_parts (has_pair 5 text) _ (and_parts (has_mark 4 _ text) _ after_years.1).1 in
    let days = and_parts (has_pair 8 text) _ (and_parts (has_mark 7 _ text) _ months.1).1 in
    let hours = and_parts (has_pair 11 text) _ (and_parts (has_mark 10 _ text) _ days.1).1 in
    let minutes = and_parts (has_mark 13 _ text) (has_pair 14 text) hours.1 in
    record {
      long = eqb-true (length text) 16 whole.0;
      century = years.0;
      year = after_years.0;
      month = months.0;
      day = days.0;
      hour = hours.0;
      minute = minutes.1;
    }
