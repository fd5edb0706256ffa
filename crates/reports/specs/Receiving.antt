-- What a clerk takes to the dock for an open advice: a sheet to write on, and the same pairs as a
-- sheet that a count takes.
use Rattle.std.specs.Prelude.{ℕ, List, [], ◌∷◌, ◌++◌, Option, Result, codes, decimal, flat_map}
use Rattle.definitions.specs.declared.widths.TheConstants.{QUANTITY_COLUMN}
use Rattle.definitions.specs.Limits.{most_item, most_lot}
use Rattle.definitions.specs.Bytes.{padded, right_aligned}
use Rattle.definitions.specs.Means.{Line, advised}
use Rattle.definitions.specs.Events.{Event}
use Rattle.definitions.specs.Need.{Need, nothing}
use Rattle.definitions.specs.Page.{PageAdvice}
use Rattle.definitions.specs.declared.refusals.Refusal.{Refusal}
use Rattle.definitions.specs.Reports.{columns, ended}
use Rattle.reports.specs.Opened.{told, open_advice, advice_opened}
use Rattle.reports.specs.PairLines.{lines_text}

-- an advice alone
abbrev pub need_of_shipment : List ℕ → Need
need_of_shipment shipment = record nothing { shipments = shipment ∷ [] }

-- item left in 20, lot left in 12, what was announced right in 6, and room to write what came
abbrev pub receiving_line : Line → List ℕ
receiving_line l = columns
    (padded most_item l.item ∷ padded most_lot l.lot
    ∷ (right_aligned QUANTITY_COLUMN (decimal l.quantity) ++ codes "  ________") ∷ [])

-- the shipment number, and a line for each pair in the order in which they were announced
abbrev pub receiving_sheet : List ℕ → List Line → List ℕ
receiving_sheet shipment lines =
    ended (codes "ADVICE " ++ shipment) ++ flat_map receiving_line lines

-- Of events: of what an open advice announced.

abbrev pub receiving_list : List Event → List ℕ → Result (List ℕ) Refusal
receiving_list es shipment =
    told (λ a. receiving_sheet a.shipment (advised a)) (open_advice es shipment)

abbrev pub receiving_csv : List Event → List ℕ → Result (List ℕ) Refusal
receiving_csv es shipment = told (λ a. lines_text (advised a)) (open_advice es shipment)

-- Of a page: of what it has under a shipment number.

abbrev pub sheet_on : Option PageAdvice → Result (List ℕ) Refusal
sheet_on found = told (λ k. receiving_sheet k.shipment k.lines) (advice_opened found)

abbrev pub csv_on : Option PageAdvice → Result (List ℕ) Refusal
csv_on found = told (λ k. lines_text k.lines) (advice_opened found)
