-- Tables that are compared one after another.
use Rattle.std.proofs.Common.{◌≡◌, ◌≢◌, ◌≤◌, ◌<◌, ◌⊎◌, inl, inr, ℕ, ◌+◌, List, [], ◌∷◌, length, take, get_or, Bool, true, false, Some, Result, Ok, sym, subst, subst₂, arith}
use Rattle.std.proofs.lemmas.List.{take_more, take_all}
use Rattle.sqlite.specs.Effect.{Database}
use Rattle.sqlite.specs.Held.{state}
use Rattle.sqlite.specs.State.{State, HasCleanDisk}
use Rattle.sqlite.specs.Store.{Ghosts}
use Rattle.sqlite_rules.specs.Lists.{Has}
use Rattle.store.specs.Fault.{Fault}
use Rattle.book_statements.specs.declared.names.TableName.{TableName}
use Rattle.book_statements.specs.Standing.{all_tables}
use Rattle.book_statements.specs.Asking.{Asked, Went, IsAsked}
use Rattle.book_statements.specs.Whole.{whole_text}
use Rattle.book_tables.specs.Comparing.{FindBoth, ShowBoth, Compares}
use Rattle.book_statements.specs.Kept.{Kept}
use Rattle.book_statements.specs.Limits.{Counts}
use Rattle.book_statements.proofs.Asked.{asked_twice}
use Rattle.book_statements.proofs.Beside.{has_either}
use Rattle.book_statements.proofs.EachTable.{among}
use Rattle.book_tables.proofs.AskedLater.{clean_before}
use Rattle.book_statements.proofs.Limited.{counts_both, none_after, spends_none}
use Rattle.book_tables.proofs.Queries.{went_of, went_none, went_on}
use Rattle.book_statements.proofs.StepLemmas.{on_ok}

-- of the first tables and one more, each is one of the first or that one
one_of : (ts : List TableName) (n : ℕ) (d t : TableName) → n < length ts → Has (take (n + 1) ts) t → Has (take n ts) t ⊎ (t ≡ get_or ts n d)
one_of ts n d t low there = elim (has_either (take n ts) (get_or ts n d ∷ []) t (subst (λ (us : List TableName). Has us t) (take_more ts n d low) there)) [
  | inl before ↦ inl before
  | inr (inl is) ↦ inr is
  | inr (inr none) ↦ elim none [ ]
]

-- what is shown after other queries was shown before them
pub shown_before : (old mid them them_mid : State) (sql : List ℕ) (same : Bool) → HasCleanDisk mid → HasCleanDisk them_mid → IsAsked old mid → IsAsked them them_mid → ShowBoth sql mid them_mid same → ShowBoth sql old them same
shown_before old mid them them_mid sql same clean their_clean asked their_asked h =
    let p = asked.same clean in
    let q = their_asked.same their_clean in
    record {
      is_open = p.was_open h.is_open;
      other_open = q.was_open h.other_open;
      find = subst₂ (λ (d e : Database). FindBoth sql d e same) (p.now h.is_open) (q.now h.other_open) h.find;
    }

module _ {S : Type 0} (store : Ghosts S) where
  -- queries, and then one more
  pub asked_after : {T U : Type 0} (a b c : Kept S) (t : T) (r : Result U Fault) → Went {T = T} store a b (Ok t) → Asked store b c r → Asked store a c r
  asked_after a b c t r one two =
      let both = went_on store a b c t r one (went_of store b c r two) in
      record { left = both.left; fault = both.fault; counts = both.counts; uncounted = both.uncounted; limit = both.limit; allowed = on_ok r (λ some none. some (none_after a.made b.made a.limit b.limit one.limit none)) two.allowed }

module _ {S T : Type 0} (store : Ghosts S) (its : Ghosts T) where
  -- the tables so far show the same rows in both
  pub record SoFar (old now : Kept S) (them them_now : Kept T) (number : ℕ) : Type 0 where
    pub went : Went {T = Bool} store old now (Ok true)
    pub other : IsAsked (state its them.conn) (state its them_now.conn)
    pub other_limit : Counts them them_now
    pub allowed : 0 < number → old.limit ≢ Some 0
    pub same : HasCleanDisk (state store now.conn) → HasCleanDisk (state its them_now.conn) → (t : TableName) → Has (take number all_tables) t → ShowBoth (whole_text t) (state store old.conn) (state its them.conn) true

  pub none_so_far : (old : Kept S) (them : Kept T) → SoFar old old them them 0
  none_so_far old them = record {
    went = went_none store old true;
    other = let w = went_none its them true in w.left;
    other_limit = spends_none them.made them.limit;
    allowed = λ h. absurd (omega (arith, h));
    same = λ _ _ t none. absurd none;
  }

  module _ (old mid new : Kept S) (them them_mid them_new : Kept T) (number : ℕ) (so_far : SoFar old mid them them_mid number) where
    both_asked : IsAsked (state its them_mid.conn) (state its them_new.conn) → IsAsked (state its them.conn) (state its them_new.conn)
    both_asked later = asked_twice (state its them.conn) (state its them_mid.conn) (state its them_new.conn) so_far.other later

    pub fails_after : {U : Type 0} (r : Result U Fault) → Asked store mid new r → Asked store old new r
    fails_after r later = asked_after store old mid new true r so_far.went later

    pub other_after : IsAsked (state its them_mid.conn) (state its them_new.conn) → IsAsked (state its them.conn) (state its them_new.conn)
    other_after = both_asked

    pub limit_after : Counts them_mid them_new → Counts them them_new
    limit_after later = counts_both them them_mid them_new so_far.other_limit later

    module _ (d : TableName) (low : number < length all_tables) (sql : List ℕ) (sql_is : sql ≡ whole_text (get_or all_tables number d)) (same : Bool) (asked : Asked {T = Bool} store mid new (Ok same))
        (other_asked : IsAsked (state its them_mid.conn) (state its them_new.conn)) (other_limit : Counts them_mid them_new)
        (shows : HasCleanDisk (state store new.conn) → HasCleanDisk (state its them_new.conn) → ShowBoth sql (state store mid.conn) (state its them_mid.conn) same) where
      abbrev t : TableName
      t = get_or all_tables number d

      early : HasCleanDisk (state store new.conn) → HasCleanDisk (state store mid.conn)
      early = clean_before (state store mid.conn) (state store new.conn) asked.left

      its_early : HasCleanDisk (state its them_new.conn) → HasCleanDisk (state its them_mid.conn)
      its_early = clean_before (state its them_mid.conn) (state its them_new.conn) other_asked

      shown : HasCleanDisk (state store new.conn) → HasCleanDisk (state its them_new.conn) → ShowBoth (whole_text t) (state store old.conn) (state its them.conn) same
      shown clean its_clean =
          let went = so_far.went in
          shown_before (state store old.conn) (state store mid.conn) (state its them.conn) (state its them_mid.conn) (whole_text t) same (early clean) (its_early its_clean) went.left so_far.other
          (subst (λ (text : List ℕ). ShowBoth text (state store mid.conn) (state its them_mid.conn) same) sql_is (shows clean its_clean))

      pub one_more : same ≡ true → SoFar old new them them_new (number + 1)
      one_more passes =
          let all = asked_after store old mid new true (Ok same) so_far.went asked in
          record {
            went = went_of store old new (Ok true) (subst (λ (b : Bool). Asked {T = Bool} store old new (Ok b)) passes all);
            other = both_asked other_asked;
            other_limit = limit_after other_limit;
            allowed = λ _. all.allowed;
            same = λ clean its_clean u there. elim (one_of all_tables number d u low there) [
              | inl before ↦ so_far.same (early clean) (its_early its_clean) u before
              | inr is ↦ subst₂ (λ (v : TableName) (b : Bool). ShowBoth (whole_text v) (state store old.conn) (state its them.conn) b) (sym is) passes (shown clean its_clean)
            ];
          }

      pub one_differs : same ≡ false → HasCleanDisk (state store new.conn) → HasCleanDisk (state its them_new.conn)
          → Compares false (state store old.conn) (state its them.conn)
      one_differs differs clean its_clean = (t, subst (λ (b : Bool). ShowBoth (whole_text t) (state store old.conn) (state its them.conn) b) differs (shown clean its_clean))

  module _ (old now : Kept S) (them them_now : Kept T) (number : ℕ) (whole : length all_tables ≤ number) (so_far : SoFar old now them them_now number) where
    pub all_same : HasCleanDisk (state store now.conn) → HasCleanDisk (state its them_now.conn) → Compares true (state store old.conn) (state its them.conn)
    all_same clean its_clean t = so_far.same clean its_clean t (subst (λ (ts : List TableName). Has ts t) (sym (take_all number all_tables whole)) (among t))

    pub all_asked : Asked {T = Bool} store old now (Ok true)
    all_asked =
        let went = so_far.went in
        record { left = went.left; fault = went.fault; counts = went.counts; uncounted = went.uncounted; limit = went.limit; allowed = so_far.allowed (omega (arith, whole)) }
