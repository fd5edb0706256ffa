-- A row that is put by its key, as lists of rows.
use Rattle.std.proofs.Common.{◌≡◌, ◌≢◌, inl, inr, ℕ, ℤ, List, [], ◌∷◌, take, drop, filter, not, Bool, true, false, refl, sym, ap, subst, ◌∙◌}
use Rattle.std.specs.Ordering.{is_eq}
use Rattle.std.specs.declared.cmp.Ordering.{Ordering}
use Rattle.std.specs.declared.cmp.Ordering.TheVariants.{Less, Equal, Greater}
use Rattle.std.proofs.lemmas.Bool.{cases_Bool}
use Rattle.sqlite.specs.declared.types.Value.TheVariants.{Int}
use Rattle.sqlite.specs.Order.{Row, value_cmp}
use Rattle.sqlite.specs.Tree.{IsTable, rowid, has_rowid, put_row, without_rowid}
use Rattle.sqlite.specs.Edit.{are_fresh}
use Rattle.sqlite_rules.specs.Lists.{Has}
use Rattle.sqlite_rules.proofs.ListLemmas.{has_filtered, has_kept}
use Rattle.sqlite_rules.proofs.TableLemmas.{has_put, put_has, put_all_keeps}
use Rattle.sqlite_rules.proofs.PlaceLemmas.{tied_same}
use Rattle.sqlite_trees.proofs.TreeLemmas.{IsTable-put_row}
use Rattle.sqlite_rules.proofs.ListLemmas.{all_has, all_from}
use Rattle.book_statements.specs.Steps.{PutByKey}

pub filter_table : (p : Row → Bool) (rows : List Row) → IsTable rows → IsTable (filter p rows)
filter_table p [] up = tt
filter_table p (r ∷ rows) up = elim (cases_Bool (p r)) [
  | inl e ↦ rw e (all_from _ (filter p rows) (λ y h. all_has _ rows y up.0 (has_filtered p rows y h).0), filter_table p rows up.1)
  | inr e ↦ rw e (filter_table p rows up.1)
]

pub is_equal : (o : Ordering) → is_eq o ≡ true → o ≡ Equal
is_equal Less h = absurd cc
is_equal Equal h = refl
is_equal Greater h = absurd cc

not_false : (b : Bool) → b ≡ true → not b ≡ true → ⊥
not_false true h k = let e : ◌≡◌ {A = Bool} false true = k in cc
not_false false h k = let e : ◌≡◌ {A = Bool} false true = h in cc

is_not : (b : Bool) → b ≡ false → not b ≡ true
is_not true h = absurd (let e : ◌≡◌ {A = Bool} true false = h in cc)
is_not false h = refl

module _ (k : ℕ) (cells : Row) (rows : List Row) (up : IsTable rows) (id : ℤ) where
  -- no row has the key
  pub put_free : are_fresh rows ((Int id ∷ cells) ∷ []) ≡ true → ((r : Row) → Has rows r → take k (drop 1 r) ≢ take k cells) → PutByKey k cells rows (put_row (Int id ∷ cells) rows)
  put_free fresh free = record {
    rise = IsTable-put_row (Int id ∷ cells) rows up;
    sound = λ row there. elim (put_has (Int id ∷ cells) rows row there) [ inl new ↦ inl (id, new) | inr old ↦ inr (old, free row old) ];
    there = (id, has_put (Int id ∷ cells) rows);
    kept = λ row old _. put_all_keeps ((Int id ∷ cells) ∷ []) rows row fresh old;
  }

  -- one row has it, and goes
  pub put_over : (old : Row) → Has rows old → rowid old ≡ Int id → take k (drop 1 old) ≡ take k cells → ((r : Row) → Has rows r → take k (drop 1 r) ≡ take k cells → r ≡ old)
      → are_fresh (without_rowid id rows) ((Int id ∷ cells) ∷ []) ≡ true → has_rowid id old ≡ true → PutByKey k cells rows (put_row (Int id ∷ cells) (without_rowid id rows))
  put_over old there named key unique fresh has = record {
    rise = IsTable-put_row (Int id ∷ cells) (without_rowid id rows) (filter_table (λ r. not (has_rowid id r)) rows up);
    sound = λ row here. elim (put_has (Int id ∷ cells) (without_rowid id rows) row here) [
      | inl new ↦ inl (id, new)
      | inr left ↦
          let both = has_filtered (λ r. not (has_rowid id r)) rows row left in
          inr (both.0, λ same. not_false (has_rowid id row) (subst (λ r. has_rowid id r ≡ true) (sym (unique row both.0 same)) has) both.1)
    ];
    there = (id, has_put (Int id ∷ cells) (without_rowid id rows));
    kept = λ row here other. put_all_keeps ((Int id ∷ cells) ∷ []) (without_rowid id rows) row fresh (has_kept (λ r. not (has_rowid id r)) rows row here (elim (cases_Bool (has_rowid id row)) [
      | inl tie ↦ absurd (let tied : value_cmp (rowid row) (rowid old) ≡ Equal = rw named (is_equal _ tie) in other (ap (λ r. take k (drop 1 r)) (tied_same rows row old up here there tied) ∙ key))
      | inr apart ↦ is_not _ apart
    ]));
  }
