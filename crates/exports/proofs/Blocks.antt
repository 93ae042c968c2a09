-- What a call of a sketch in words is passed beside its arguments: its type's Layout block, which says how many words stand before the sums, the blocks
-- that a call of the field is passed, and what no contract asks of.
-- Assumes nothing.
use denote.RattleType.{RattleType}
use denote.Builtin.{u16, u32}
use denote.Param.Laws.{Laws, IsCopy}
use mir.Syntax.{Dict}
use Rattle.std.specs.declared.clone.Clone as clone
use Rattle.std.specs.declared.cmp.PartialEq as equal
use Rattle.modint.proofs.Blocks as field
use Rattle.modint.proofs.Blocks.{Word}
use Rattle.exports.specs.declared.layout.Layout as layout
use Rattle.exports.specs.contracts.layout.U16Layout.TheImpl as narrow
use Rattle.exports.specs.contracts.layout.U32Layout.TheImpl as wide

-- The Layout block of a type.
abbrev pub Layout : RattleType → Type 1
Layout T = layout.Ghosts T.Denot

-- Words of 16 bits.
abbrev pub layout16 : Layout u16
layout16 = narrow.ghosts

-- Words of 32 bits.
abbrev pub layout32 : Layout u32
layout32 = wide.ghosts

-- All that is passed but the Layout block and the Word block: what a theorem over a generic contract holds for whatever it is.
pub record Passed (T : RattleType) : Type 2 where
  pub field : field.Passed T
  pub layout_code : Dict

-- What a call on words of 16 bits is passed.
pub passed16 : Passed u16
passed16 = record { field = field.passed16; layout_code = narrow.dict }

-- On words of 32 bits.
pub passed32 : Passed u32
passed32 = record { field = field.passed32; layout_code = wide.dict }

-- What a generic contract promises where a Layout block, a Word block and the rest are passed: a fact of the lifetimes, the arguments, the result and
-- the arguments at the exit.
abbrev pub passing : {T : RattleType} (y : Layout T) (w : Word T) (p : Passed T) {Post : (T : RattleType) → Laws T → IsCopy T → Type 1}
    → ((T : RattleType) (l : Laws T) (c : IsCopy T) → Layout T → Dict → Word T → Dict → clone.Ghosts T.Denot → Dict → equal.Ghosts T.Denot → Dict → Post T l c)
    → Post T p.field.laws p.field.copy
passing {T} y w p post = post T p.field.laws p.field.copy y p.layout_code w p.field.word_code p.field.clone p.field.clone_code p.field.equal p.field.equal_code
