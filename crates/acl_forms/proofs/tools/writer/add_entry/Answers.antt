use Rattle.std.proofs.Common.{append_assoc, List, ℕ, ◌++◌, ◌∷◌, ◌≡◌, []}
use Rattle.acl_forms.specs.Letters.{flag_letters, single_letters}
use Rattle.acl_forms.specs.ToolsText.{with_group_flag}
use Rattle.acl_forms.specs.ToolsWritten.{kind_letter, letters_of, tools_entry_text}
use Rattle.acl_forms.proofs.tools.writer.add_entry.Goals as goal

-- the pieces of an entry, one after the other
joined : (old : List ℕ) (kind : ℕ) (flags who mask : List ℕ) → ((((((old ++ kind ∷ []) ++ 0x3a ∷ []) ++ flags)
    ++ 0x3a ∷ []) ++ who) ++ 0x3a ∷ []) ++ mask
    ≡ old ++ ((kind ∷ []) ++ 0x3a ∷ (flags ++ 0x3a ∷ (who ++ 0x3a ∷ mask)))
joined old kind flags who mask = simp append_assoc

-- one piece after the other, from the last
pub returns-clause-text : goal.returns-clause-text
unfolding tools_entry_text
returns-clause-text c =
    let item = c.args.item in
    rw (c.add_letters-2.ensures.text, c.push-4.ensures.items, c.add.ensures.items)
    (rw (c.push-3.ensures.items, c.add_letters.ensures.text, c.push-2.ensures.items, c.push.ensures.items)
    (rw (
      c.kind_letter.ensures,
      c.single_letters.ensures,
      c.bits.ensures,
      c.with_group-flags.ensures,
      c.bits-2.ensures.value,
    )
    (joined c.args.line.now.items (kind_letter item.kind)
    (letters_of flag_letters (with_group_flag item.who.now item.flags.bits)) item.who.now
    (letters_of (single_letters []) item.mask.bits))))
