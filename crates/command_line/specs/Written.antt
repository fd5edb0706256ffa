-- Moments, numbers and endpoints as the words of a line write them.
use Rattle.std.specs.Prelude.{ℕ, ◌+◌, ◌*◌, Bool, ◌&&◌, nat_lt, List, ◌++◌, length, take, drop, if◌then◌else◌, ◌==◌, Some, None, codes, bytes_eq, Option}
use Rattle.std.specs.List.{list_all}
use Rattle.std.specs.Net.Text.{socket_text}
use Rattle.definitions.specs.Bytes.{is_between, is_digit, value}
use Rattle.definitions.specs.Limits.{most_entries}
use Rattle.definitions.specs.Moments.{Moment, is_moment}
use Rattle.command_line.specs.declared.numbers.TheConstants.{MOST_CONNECTIONS}
use Rattle.command_line.specs.declared.words.Endpoint.{Endpoint}
use Rattle.command_line.specs.declared.words.Endpoint.TheVariants.{Inet, Unix}

-- the two bytes at a place, and the one
abbrev pub pair_at : ℕ → List ℕ → List ℕ
pair_at i text = take 2 (drop i text)

abbrev pub has_mark : ℕ → List ℕ → List ℕ → Bool
has_mark i mark text = bytes_eq (take 1 (drop i text)) mark

abbrev pub has_pair : ℕ → List ℕ → Bool
has_pair i text = list_all is_digit (pair_at i text)

-- YYYY-MM-DDTHH:MM
abbrev pub is_form : List ℕ → Bool
is_form text = length text == 16
    && (has_pair 0 text && (has_pair 2 text
    && (has_mark 4 (codes "-") text && (has_pair 5 text
    && (has_mark 7 (codes "-") text && (has_pair 8 text
    && (has_mark 10 (codes "T") text && (has_pair 11 text
    && (has_mark 13 (codes ":") text && has_pair 14 text)))))))))

abbrev pub moment_in : List ℕ → Moment
moment_in text = record {
  year = value (pair_at 0 text) * 100 + value (pair_at 2 text);
  month = value (pair_at 5 text);
  day = value (pair_at 8 text);
  hour = value (pair_at 11 text);
  minute = value (pair_at 14 text);
}

-- the moment that is written so, if one is
abbrev pub moment_of : List ℕ → Option Moment
moment_of text = if is_form text && is_moment (moment_in text) then Some (moment_in text) else None

-- how many connections a server may be told to serve, and how many seconds something may wait
abbrev pub most_connections : ℕ
most_connections = MOST_CONNECTIONS

-- the number from 1 to a limit that is written so, in digits alone, with zeros in front or without,
-- if one is
abbrev pub number_to : ℕ → List ℕ → Option ℕ
number_to most text =
    if list_all is_digit text && is_between 1 most (value text) then Some (value text) else None

-- how many connections are written so, if that many may be
abbrev pub count_of : List ℕ → Option ℕ
count_of text = number_to most_connections text

-- for how many seconds a book that is in use is waited for, in digits alone, with zeros in front or
-- without: none at all, or so many
abbrev pub wait_of : List ℕ → Option ℕ
wait_of text =
    if nat_lt 0 (length text)
    && (list_all is_digit text && is_between 0 most_connections (value text))
    then Some (value text) else None

-- the number of an entry that is written so, if one is
abbrev pub number_of : List ℕ → Option ℕ
number_of text = number_to most_entries text

-- where a server listens
abbrev pub endpoint_text : Endpoint → List ℕ
endpoint_text (Inet address) = socket_text address
endpoint_text (Unix path) = codes "unix:" ++ path.now
