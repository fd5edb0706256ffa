use Rattle.std.proofs.Common.{◌≡◌, ◌∙◌, ℕ, true, false, refl, sym, subst, rules, inl, inr}
use Rattle.std.specs.Io.KnownBytes.{Appends}
use Rattle.folders.proofs.Taking.{handed_on}
use Rattle.store.specs.Standing.{IsQueryFault}
use Rattle.store.proofs.Changes.{clean_before, query_after, unchanged_trans}
use Rattle.books.specs.Opened.{standing_of}
use Rattle.commands.specs.Stops.{IsFaultThat}
use Rattle.commands.specs.declared.told.CommandError.{CommandError}
use Rattle.app.specs.Checking.{told_whole}
use Rattle.app.proofs.checking.check.Goals as goal

pub returns-in_err-begins_so-clause-checked : goal.returns-in_err-begins_so-clause-checked
returns-in_err-begins_so-clause-checked g c =
    let v = g.S.Store in
    let query = c.in_ok-entries.ensures.query in
    let first = query.reading in
    let second = c.in_err-begins_so.ensures.reading in
    record {
      told = λ clean L k. search rules;
      same = unchanged_trans (standing_of v c.args.book.now) (standing_of v c.watched.new.book) (standing_of v c.begins_so.new.book) first.same second.same;
    }

pub returns-in_err-begins_so-clause-stopped : goal.returns-in_err-begins_so-clause-stopped
returns-in_err-begins_so-clause-stopped g c =
    let v = g.S.Store in
    let old = standing_of v c.args.book.now in
    let mid = standing_of v c.watched.new.book in
    let new = standing_of v c.begins_so.new.book in
    let query = c.in_ok-entries.ensures.query in
    let first = query.reading in
    let second = c.in_err-begins_so.ensures.reading in
    let same = second.same in
    let failed = query_after old mid new first.same same.goes c.in_err-begins_so.field-0.0 second.fault in
    handed_on c.from_residual-in_err-begins_so.result _ _ c.from_residual-in_err-begins_so.ensures
    (λ stop is. inl (inl (subst (λ (s : CommandError). IsFaultThat s (λ fault. IsQueryFault fault old new)) (sym is) failed)))

pub returns-then-not-branch-clause-checked : goal.returns-then-not-branch-clause-checked
returns-then-not-branch-clause-checked g c =
    let v = g.S.Store in
    let query = c.in_ok-entries.ensures.query in
    let first = query.reading in
    let second = c.in_ok-begins_so.ensures.reading in
    record {
      told = λ clean L k. tt;
      same = unchanged_trans (standing_of v c.args.book.now) (standing_of v c.watched.new.book) (standing_of v c.begins_so.new.book) first.same second.same;
    }

pub returns-then-not-branch-clause-stopped : goal.returns-then-not-branch-clause-stopped
returns-then-not-branch-clause-stopped g c =
    let v = g.S.Store in
    let mid = standing_of v c.watched.new.book in
    let new = standing_of v c.begins_so.new.book in
    let query = c.in_ok-entries.ensures.query in
    let first = query.reading in
    let unchanged = first.same in
    let second = c.in_ok-begins_so.ensures.reading in
    let same = second.same in
    let never : c.in_ok-begins_so.field-0 ≡ false = search rules in
    inr (record {
      told = refl;
      other = λ clean L k. sym (c.in_ok-begins_so.ensures.begins clean L (unchanged.keeps (clean_before mid new same.goes clean) L k)) ∙ never;
    })

pub returns-in_err-write-clause-checked : goal.returns-in_err-write-clause-checked
returns-in_err-write-clause-checked g c =
    let v = g.S.Store in
    let query = c.in_ok-entries.ensures.query in
    let first = query.reading in
    let second = c.in_ok-begins_so.ensures.reading in
    record {
      told = λ clean L k. search rules;
      same = unchanged_trans (standing_of v c.args.book.now) (standing_of v c.watched.new.book) (standing_of v c.begins_so.new.book) first.same second.same;
    }

pub returns-clause-checked : goal.returns-clause-checked
returns-clause-checked g c =
    let v = g.S.Store in
    let old = standing_of v c.args.book.now in
    let mid = standing_of v c.watched.new.book in
    let new = standing_of v c.begins_so.new.book in
    let query = c.in_ok-entries.ensures.query in
    let first = query.reading in
    let unchanged = first.same in
    let second = c.in_ok-begins_so.ensures.reading in
    let same = second.same in
    let before = g.W.Write.contents c.args.out.now in
    let later = g.W.Write.contents c.write.new.self in
    let begins : c.in_ok-begins_so.field-0 ≡ true = search rules in
    record {
      told = λ clean L k. (
        subst (λ (n : ℕ). Appends before later (told_whole n)) (c.in_ok-entries.ensures.whole (clean_before mid new same.goes clean) L k) c.in_ok-write.ensures.bytes,
        sym (c.in_ok-begins_so.ensures.begins clean L (unchanged.keeps (clean_before mid new same.goes clean) L k)) ∙ begins,
      );
      same = unchanged_trans old mid new first.same second.same;
    }

pub returns-clause-stands : goal.returns-clause-stands
returns-clause-stands g c = λ clean laid are.
    let v = g.S.Store in
    let second = c.in_ok-begins_so.ensures.reading in
    let same = second.same in
    let it = c.in_ok-entries.ensures.stands (clean_before (standing_of v c.watched.new.book) (standing_of v c.begins_so.new.book) same.goes clean) laid are in
    (it.0, record { warehouse = c.args.book.now.warehouse; entries = c.in_ok-entries.entries; stands = it.1; told = c.in_ok-write.ensures.bytes })
