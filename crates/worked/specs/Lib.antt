pub mod ThreeLifts
