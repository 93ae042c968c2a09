-- What a call of a generic function is passed beside its arguments: its type's Word block, which says what the type's words are, and what no
-- contract asks of.
-- Assumes nothing.
use Prim.Native.Nat.{ℕ}
use denote.RattleType.{RattleType}
use denote.Builtin.{u16, u32}
use denote.Param.Laws.{Laws, IsCopy, of_field}
use denote.Param.Shared.{copy_shared}
use denote.Struct.Field.{u16-field, u32-field}
use denote.Struct.Laws.{u16-laws, u16-copy, u32-laws, u32-copy}
use mathlib.Core.Path.{refl}
use mir.Syntax.{Dict}
use Rattle.std.specs.declared.clone.Clone as clone
use Rattle.std.specs.declared.cmp.PartialEq as equal
use Rattle.std.specs.contracts.prelude.U16Clone.TheImpl as clone16
use Rattle.std.specs.contracts.prelude.U32Clone.TheImpl as clone32
use Rattle.std.specs.contracts.prelude.U16PartialEq.TheImpl as equal16
use Rattle.std.specs.contracts.prelude.U32PartialEq.TheImpl as equal32
use Rattle.rules.specs.Kind.{Kind, kind16, kind32}
use Rattle.modint.specs.declared.word.Word as word
use Rattle.modint.specs.contracts.narrow.U16Word.TheImpl as narrow
use Rattle.modint.specs.contracts.wide.U32Word.TheImpl as wide

-- The Word block of a type.
abbrev pub Word : RattleType → Type 1
Word T = word.Ghosts T.Denot

-- Codes of 16 bits.
abbrev pub word16 : Word u16
word16 = narrow.ghosts

-- Codes of 32 bits.
abbrev pub word32 : Word u32
word32 = wide.ghosts

-- All that is passed but the Word block: what a theorem over a generic contract holds for whatever it is.
pub record Passed (T : RattleType) : Type 2 where
  pub laws : Laws T
  pub copy : IsCopy T
  pub word_code : Dict
  pub clone : clone.Ghosts T.Denot
  pub clone_code : Dict
  pub equal : equal.Ghosts T.Denot
  pub equal_code : Dict

-- What a call for codes of 16 bits is passed.
pub passed16 : Passed u16
passed16 = record {
  laws = of_field u16-field u16-laws refl (copy_shared u16-field u16-copy);
  copy = u16-copy;
  word_code = narrow.dict;
  clone = clone16.ghosts;
  clone_code = clone16.dict;
  equal = equal16.ghosts;
  equal_code = equal16.dict;
}

-- For codes of 32 bits.
pub passed32 : Passed u32
passed32 = record {
  laws = of_field u32-field u32-laws refl (copy_shared u32-field u32-copy);
  copy = u32-copy;
  word_code = wide.dict;
  clone = clone32.ghosts;
  clone_code = clone32.dict;
  equal = equal32.ghosts;
  equal_code = equal32.dict;
}

-- What a generic contract promises where a Word block and the rest are passed: a fact of the lifetimes, the arguments, the result and the arguments
-- at the exit.
abbrev pub passing : {T : RattleType} (w : Word T) (p : Passed T) {Post : (T : RattleType) → Laws T → IsCopy T → Type 1}
    → ((T : RattleType) (l : Laws T) (c : IsCopy T) → Word T → Dict → clone.Ghosts T.Denot → Dict → equal.Ghosts T.Denot → Dict → Post T l c)
    → Post T p.laws p.copy
passing {T} w p post = post T p.laws p.copy w p.word_code p.clone p.clone_code p.equal p.equal_code

-- The numbers of a width: its kind, its prime, and the greatest number of a code.
pub record Numbers : Type 0 where
  pub kind : Kind
  pub prime : ℕ
  pub most : ℕ

-- Those of codes of 16 bits.
abbrev pub numbers16 : Numbers
numbers16 = record { kind = kind16; prime = 65521; most = 65535 }

-- Those of codes of 32 bits.
abbrev pub numbers32 : Numbers
numbers32 = record { kind = kind32; prime = 4294967291; most = 4294967295 }

-- A fact of a contract at both widths: of what it promises at each, and of the width's numbers.
abbrev pub AtBoth : {Post : Type 1} → Post → Post → (Post → Numbers → Type 0) → Type 0
AtBoth narrow wide fact = fact narrow numbers16 × fact wide numbers32
