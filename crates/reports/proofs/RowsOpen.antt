-- Worked examples: what is open, and who is enrolled, byte for byte.
use Rattle.std.specs.Prelude.{◌≡◌, [], ◌∷◌, ◌++◌, Some, None, true, codes}
use Rattle.std.proofs.Common.{refl}
use Rattle.std.specs.Fmt.{digits}
use Rattle.definitions.specs.Means.{Address}
use Rattle.definitions.specs.Page.{PageAdvice, PageOrder}
use Rattle.definitions.specs.Register.{own}
use Rattle.definitions.specs.declared.rules.Rules.{Rules}
use Rattle.definitions.specs.declared.rules.Rules.TheVariants.{One, Two}
use Rattle.definitions.proofs.RowsTrade.{until_order}
use Rattle.definitions.proofs.Sample.{ACME, book, first_advice, sends}
use Rattle.reports.specs.Open.{open_report, depositor_list}
use Rattle.store.specs.Open.{open_work, enrolled}

-- goods that are announced, once for an order and once for none
abbrev hammers_and_saws : PageAdvice
hammers_and_saws = record {
  shipment = codes "SH-2041";
  order = codes "PO-7781";
  lines =
      record { item = codes "HAMMER-12"; lot = codes "A311"; quantity = 300 }
      ∷ record { item = codes "SAW-9"; lot = codes "B070"; quantity = 74 }
      ∷ [];
  is_open = true;
}

abbrev more_saws : PageAdvice
more_saws = record {
  shipment = codes "SH-2042";
  order = [];
  lines = record { item = codes "SAW-9"; lot = codes "B071"; quantity = 6 } ∷ [];
  is_open = true;
}

abbrev nord : Address
nord = record { name = codes "Nord Hardware"; one = codes "14 Quay Road"; two = []; place = codes "Bergen 5003" }

-- the hammers are reserved of two lots; six saws are short
abbrev to_nord : PageOrder
to_nord = record {
  number = codes "SO-551";
  address = Some nord;
  lines =
      record { item = codes "HAMMER-12"; pin = None; quantity = 250 }
      ∷ record { item = codes "SAW-9"; pin = None; quantity = 60 }
      ∷ [];
  reserved =
      record { item = codes "HAMMER-12"; lot = codes "A311"; quantity = 240 }
      ∷ record { item = codes "HAMMER-12"; lot = codes "A312"; quantity = 10 }
      ∷ record { item = codes "SAW-9"; lot = codes "B070"; quantity = 54 }
      ∷ [];
  is_open = true;
}

-- nothing of it is reserved, and it doesn't say where it goes
abbrev to_nowhere : PageOrder
to_nowhere = record {
  number = codes "SO-552";
  address = None;
  lines = record { item = codes "SAW-9"; pin = Some (codes "B070"); quantity = 3 } ∷ [];
  reserved = [];
  is_open = true;
}

nothing_open : open_report (record { advices = []; orders = [] })
    ≡ codes "advice                 lines        expected order\n"
    ++ codes "order                  lines ship to\n"
nothing_open = refl

advices_open : open_report (record { advices = hammers_and_saws ∷ more_saws ∷ []; orders = [] })
    ≡ codes "advice                 lines        expected order\n"
    ++ codes "SH-2041                    2             374 PO-7781\n"
    ++ codes "SH-2042                    1               6 -\n"
    ++ codes "order                  lines ship to\n"
unfolding digits
advices_open = refl

orders_open : open_report (record { advices = []; orders = to_nord ∷ to_nowhere ∷ [] })
    ≡ codes "advice                 lines        expected order\n"
    ++ codes "order                  lines ship to\n"
    ++ codes "SO-551                     2 Nord Hardware\n"
    ++ codes "  SAW-9                (short)           6\n"
    ++ codes "SO-552                     1 -\n"
    ++ codes "  SAW-9                (short)           3\n"
unfolding digits
orders_open = refl

-- an address without a name
nameless : open_report (record {
  advices = [];
  orders = record { number = codes "SO-553"; address = Some (record { name = []; one = []; two = []; place = codes "Bergen" }); lines = []; reserved = []; is_open = true } ∷ [];
})
    ≡ codes "advice                 lines        expected order\n"
    ++ codes "order                  lines ship to\n"
    ++ codes "SO-553                     0 -\n"
unfolding digits
nameless = refl

two_depositors : depositor_list (record { qualifier = codes "ZZ"; id = codes "HOLM" } ∷ record { qualifier = codes "01"; id = codes "TEAROOM" } ∷ [])
    ≡ codes "ZZ-HOLM\n01-TEAROOM\n"
two_depositors = refl

nobody : depositor_list [] ≡ []
nobody = refl

-- The same of a book: an advice that isn't counted, and then an order, of which not all is on hand.

advice_in_a_book : (r : Rules) → open_report (open_work (own (book r (sends first_advice ∷ [])) ACME))
    ≡ codes "advice                 lines        expected order\n"
    ++ codes "SHP1                       1             100 PO77\n"
    ++ codes "order                  lines ship to\n"
unfolding digits
advice_in_a_book One = refl
advice_in_a_book Two = refl

order_in_a_book : (r : Rules) → open_report (open_work (own (book r until_order) ACME))
    ≡ codes "advice                 lines        expected order\n"
    ++ codes "order                  lines ship to\n"
    ++ codes "ORD1                       1 -\n"
    ++ codes "  BOLT                 (short)          30\n"
unfolding digits
order_in_a_book One = refl
order_in_a_book Two = refl

depositors_of_a_book : (r : Rules) → depositor_list (enrolled (book r (sends first_advice ∷ []))) ≡ codes "ZZ-ACME\n"
depositors_of_a_book One = refl
depositors_of_a_book Two = refl
