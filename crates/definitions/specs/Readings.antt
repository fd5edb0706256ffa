-- The way back: from written texts to what they stand for. Each reading is of a text only where
-- writing gives this text again.
use Rattle.std.specs.Prelude.{ℕ, Bool, true, ◌&&◌, List, [], ◌∷◌, length, take, drop, if◌then◌else◌, ◌==◌, Some, None, codes, bytes_eq, filter_map, Option, option_map, option_and_then}
use Rattle.std.specs.List.{slice_split}
use Rattle.definitions.specs.declared.rules.Rules.{Rules}
use Rattle.definitions.specs.declared.rules.Rules.TheVariants.{One}
use Rattle.definitions.specs.Limits.{most_ticket}
use Rattle.definitions.specs.Bytes.{is_identifier, value}
use Rattle.definitions.specs.Lists.{first_of}
use Rattle.definitions.specs.Moments.{Moment, is_moment, stamp}
use Rattle.definitions.specs.Header.{Who, is_partner, who_of, isa}
use Rattle.definitions.specs.Means.{Line}
use Rattle.definitions.specs.Register.{Act, Count, Pick, Recount, Deed, Enrolled, Received, Performed, Entry, canonical}
use Rattle.definitions.specs.Clerk.{line_of, raw_line, is_act}

abbrev pub is_deed : Rules → Deed → Bool
is_deed r Enrolled = true
is_deed r (Received text) = true
is_deed r (Performed ticket act) = is_identifier 1 most_ticket ticket && is_act r act

-- an entry that a command can make
abbrev pub is_entry : Entry → Bool
is_entry e = is_partner e.who && is_moment e.moment && is_deed e.rules e.deed

-- Moments.

abbrev pub moment_in : List ℕ → Moment
moment_in text = record {
  year = value (take 4 text);
  month = value (take 2 (drop 4 text));
  day = value (take 2 (drop 6 text));
  hour = value (take 2 (drop 8 text));
  minute = value (drop 10 text);
}

-- the moment that is written so, CCYYMMDDHHMM, if one is
abbrev pub moment_of : List ℕ → Option Moment
moment_of text =
    let t = moment_in text in
    if is_moment t && bytes_eq (stamp t) text then Some t else None

-- Acts.

abbrev pub parts_at : ℕ → List ℕ → List (List ℕ)
parts_at c text = slice_split (λ b. b == c) text

-- the line that the text between two LF is
abbrev pub line_in : List ℕ → Option Line
line_in text = option_map line_of (raw_line (parts_at 44 text))

-- the act of a head's words and of the lines after it
abbrev pub act_by : List (List ℕ) → List Line → Option Act
act_by (word ∷ number ∷ []) sheet = first_of None
    ((bytes_eq word (codes "count"), Some (Count number sheet))
    ∷ (bytes_eq word (codes "pick"), Some (Pick number sheet))
    ∷ [])
act_by (word ∷ []) sheet = Some (Recount sheet)
act_by words sheet = None

abbrev pub act_in : List (List ℕ) → Option Act
act_in [] = None
act_in (head ∷ lines) = act_by (parts_at 32 head) (filter_map line_in lines)

abbrev pub act_if : Rules → List ℕ → Act → Option Act
act_if r text act = if is_act r act && bytes_eq (canonical act) text then Some act else None

-- the act of which this is the canonical text, if one is
abbrev pub act_of : Rules → List ℕ → Option Act
act_of r text = option_and_then (act_if r text) (act_in (parts_at 10 text))

-- the act, if it is one of rules 1
abbrev pub first_act : Act → Option Act
first_act act = if is_act One act then Some act else None

-- Entries.

-- the deed with this mark and body, if there is one
abbrev pub deed_of : Rules → List ℕ → List ℕ → Option Deed
deed_of r [] body = None
deed_of r (letter ∷ name) body = first_of None
    ((letter == 69 && length name == 0 && length body == 0, Some Enrolled)
    ∷ (letter == 88 && bytes_eq (isa body 13) name, Some (Received body))
    ∷ (letter == 84, option_map (Performed name) (act_of r body))
    ∷ [])

abbrev pub entry_by : Rules → Option Who → Option Moment → Option Deed → Option Entry
entry_by r (Some w) (Some t) (Some d) = Some (record { who = w; moment = t; deed = d; rules = r })
entry_by r w t d = None

-- the entry under these rules of these texts of its depositor, mark, moment and body, if one is
-- written so
abbrev pub entry_from : Rules → List ℕ → List ℕ → List ℕ → List ℕ → Option Entry
entry_from r who under moment body =
    entry_by r (who_of who) (moment_of moment) (deed_of r under body)
