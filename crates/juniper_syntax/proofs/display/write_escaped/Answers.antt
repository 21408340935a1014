use Rattle.std.proofs.Common.{◌≡◌, ◌-◌, ◌<◌, true, false, [], ◌++◌, length, get_or, take, drop, refl, rules, arith, append_assoc}
use Rattle.std.proofs.lemmas.Grind.{common_steps}
use Rattle.std.proofs.lemmas.Str.{IsCharBoundary-start, IsCharBoundary-after_ascii}
use Rattle.std.proofs.Output.{has_written_append, has_written_of_eq}
use Rattle.graphql_spec.specs.Display.{written_byte}
use Rattle.juniper_syntax.specs.Escapes.{is_escaped}
use Rattle.juniper_syntax.proofs.Escapes.{escaped_ascii, keep_byte, escape_byte}
use Rattle.juniper_syntax.proofs.display.write_escaped.Goals as goal
use Rattle.juniper_syntax.proofs.display.write_escaped.Goals.{then-is_escaped+in_ok-write_str+in_ok-write_escape, else-is_escaped}

pub loop-at-init : goal.loop-at-init
loop-at-init g c = (omega arith, IsCharBoundary-start c.args.text.now c.utf8.text, [], refl, search rules)

pub loop-at-preserved : goal.loop-at-preserved
loop-at-preserved g c =
    let l = c.loop-at in
    let s = c.args.text.now in
    let (low, bound, done, whole, wrote) = l.invariant in
    let within : l.at < length s = omega (arith, c.as_bytes-byte-items.ensures.len) in
    elim c.if-is_escaped.branch [
      | then-is_escaped+in_ok-write_str+in_ok-write_escape w ↦
          let escaped : is_escaped (get_or s l.at 0) ≡ true = grind (arith, common_steps) in
          rw (w.start-is, w.f-is) (
            omega arith,
            IsCharBoundary-after_ascii s l.at c.utf8.text within (escaped_ascii _ escaped),
            done ++ (take (l.at - l.start) (drop l.start s) ++ written_byte (get_or s l.at 0)),
            escape_byte s done _ l.start l.at within whole,
            λ plain.
                let sofar = wrote plain in
                let one = w.write_str.ensures.writes sofar.plain (search rules) in
                let two = w.write_escape.ensures (grind (arith, common_steps)) one.plain (search rules) in
                has_written_of_eq _ _ _ _ _ (grind (arith, common_steps, append_assoc))
                (has_written_append _ _ _ _ _ _ (has_written_append _ _ _ _ _ _ sofar one) two),
          )
      | else-is_escaped w ↦
          let plain : is_escaped (get_or s l.at 0) ≡ false = grind (arith, common_steps) in
          rw (w.start-is, w.f-is) (omega arith, bound, done, keep_byte s done _ l.start l.at low within plain whole, wrote)
    ]
