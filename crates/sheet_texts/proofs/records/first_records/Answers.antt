use Rattle.std.proofs.Common.{Bor, List, ℕ, ◌≡◌, ◌≤◌, ◌∙◌, ◌+◌, sym, refl, ap, rules, arith, inl, inr, true, map, Some, ◌∷◌, [], length, take}
use Rattle.std.specs.Result.{is_ok}
use Rattle.std.proofs.lemmas.List.{map-append, length-map, length-append, take_all}
use Rattle.csv.specs.Reading.{Reached, default_config, strip_bom}
use Rattle.csv.specs.Records.{Row, fields_of}
use Rattle.csv.specs.declared.parser.State.TheVariants as st
use Rattle.csv.proofs.ReadFacts.{rows-end, rows-more}
use Rattle.definitions.specs.Limits.{most_lines}
use Rattle.definitions.specs.Rules.{Today}
use Rattle.sheet_texts.proofs.RecordLaws.{first_read, all_read}
use Rattle.sheet_texts.proofs.records.first_records.Goals as goal

pub loop-row-init : goal.loop-row-init
unfolding Reached
loop-row-init c =
    let fr = c.from_reader-reader.ensures in
    let e = c.has_headers.ensures in
    let f = c.flexible.ensures in
    let start = c.into_iter-row-iterator.ensures.into_iter_gives ∙ refl in
    let rdr = c.into_byte_records-row-items.ensures.rdr in
    let left = c.into_byte_records-row-items.ensures.left in
    rw (start, rdr, c.new-rows.ensures.items) (
      rw (f, e) at fr.trim ∙ c.new.ensures.trim,
      inr (inr (rw (f, e) at fr.has_headers, fr.headers)),
      left,
      rw (f, e) at fr.config ∙ c.new.ensures.config,
      strip_bom c.args.text.now,
      fr.source,
      (sym fr.state, refl),
      omega arith,
    )

pub loop-row-preserved : goal.loop-row-preserved
loop-row-preserved c =
    let inv = c.loop-row.invariant in
    let s = rw (c.in-Some.is, c.in-Ok.is) at ((c.next.ensures.steps inv.2 inv.0).0 inv.1) in
    let good : is_ok c.push.result ≡ true = search rules in
    let items = rw good at c.push.ensures.items in
    let m = rows-more (λ (s : Bor (List ℕ)). Some s.now) c.loop-row.row-iterator.rdr c.next.new.self.rdr (fields_of c.in-Ok.row) default_config st.StartRecord (strip_bom c.args.text.now) inv.4 (map fields_of c.loop-row.rows.items) inv.3 inv.5 inv.6 s.0 in
    (s.0.3 ∙ inv.0, inl s.1, s.2, s.0.2 ∙ inv.3, m.0, m.1, rw (items, map-append fields_of c.loop-row.rows.items (c.in-Ok.row ∷ [])) m.2, omega (arith, c.len.ensures, c.from.ensures, c.if-len-from.false))

pub returns-then-len-from : goal.returns-then-len-from
returns-then-len-from c =
    let inv = c.loop-row.invariant in
    let s = rw (c.in-Some.is, c.in-Ok.is) at ((c.next.ensures.steps inv.2 inv.0).0 inv.1) in
    let good : is_ok c.push.result ≡ true = search rules in
    let items = rw good at c.push.ensures.items in
    let m = rows-more (λ (s : Bor (List ℕ)). Some s.now) c.loop-row.row-iterator.rdr c.next.new.self.rdr (fields_of c.in-Ok.row) default_config st.StartRecord (strip_bom c.args.text.now) inv.4 (map fields_of c.loop-row.rows.items) inv.3 inv.5 inv.6 s.0 in
    let reached : Reached default_config st.StartRecord (strip_bom c.args.text.now) (map fields_of c.push.new.self.items) c.next.new.self.rdr.state m.0 = rw (items, map-append fields_of c.loop-row.rows.items (c.in-Ok.row ∷ [])) m.2 in
    let long : length (map fields_of c.push.new.self.items) ≡ most_lines Today + 1 = omega (arith, inv.7, c.len.ensures, c.from.ensures, c.if-len-from.true, ap (λ (zs : List Row). length zs) items, length-append c.loop-row.rows.items (c.in-Ok.row ∷ []), length-map c.push.new.self.items fields_of) in
    sym (first_read default_config (strip_bom c.args.text.now) (map fields_of c.push.new.self.items) c.next.new.self.rdr.state m.0 reached (most_lines Today + 1) long)

pub returns : goal.returns
returns c =
    let inv = c.loop-row.invariant in
    let s = rw c.in-None.is at ((c.next.ensures.steps inv.2 inv.0).0 inv.1) in
    let none = rows-end (λ (s : Bor (List ℕ)). Some s.now) c.loop-row.row-iterator.rdr c.next.new.self.rdr [] default_config inv.4 inv.3 inv.5 s in
    let rows = map fields_of c.loop-row.rows.items in
    let few : length rows ≤ most_lines Today + 1 = omega (arith, inv.7, length-map c.loop-row.rows.items fields_of) in
    sym (ap (take (most_lines Today + 1)) (all_read default_config (strip_bom c.args.text.now) rows c.loop-row.row-iterator.rdr.state inv.4 inv.6 none) ∙ take_all (most_lines Today + 1) rows few)
